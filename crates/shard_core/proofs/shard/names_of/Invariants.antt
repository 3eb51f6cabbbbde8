use Rattle.std.proofs.Common.{◌≡◌}
use Rattle.shard_core.specs.Kept.{first_names}
use Rattle.shard_core.proofs.shard.names_of.Given as goal

abbrev pub invariant-loop-place : goal.invariant-loop-place
invariant-loop-place l = l.names.items ≡ first_names l.place
