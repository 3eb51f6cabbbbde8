use Rattle.std.proofs.Common.{ℕ, ◌<◌}
use Rattle.stmt_codec.specs.View.{certificates}
use Rattle.shard_core.specs.Kept.{DiffersBefore}
use Rattle.shard_core.proofs.shard.keepable.are_apart.Given as goal

abbrev pub invariant-loop-place : goal.invariant-loop-place
invariant-loop-place l = (k : ℕ) → k < l.place → DiffersBefore (certificates l.cites) k k
