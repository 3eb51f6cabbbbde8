use Rattle.std.proofs.Common.{◌≡◌, ◌++◌, take}
use Rattle.std.specs.List.{slice_get, filter_map}
use Rattle.stmt_codec.specs.View.{certificates}
use Rattle.shard_core.proofs.held.snapshot.push_at.Given as goal

abbrev pub invariant-loop-at : goal.invariant-loop-at
invariant-loop-at l = certificates l.out.items ≡ certificates l.initial.out.items ++ filter_map (slice_get (certificates l.presented)) (take l.at l.places.items)
