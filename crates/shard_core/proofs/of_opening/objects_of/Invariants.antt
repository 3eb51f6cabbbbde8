use Rattle.std.proofs.Common.{◌≡◌, map, take}
use Rattle.shard_core.specs.Cells.{new_object}
use Rattle.shard_core.proofs.of_opening.objects_of.Given as goal

abbrev pub invariant-loop-place : goal.invariant-loop-place
invariant-loop-place l = l.objects.items ≡ map (new_object l.limit) (take l.place l.plans)
