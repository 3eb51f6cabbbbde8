use Rattle.std.proofs.Common.{◌≡◌, length, map, take}
use Rattle.std.specs.Prelude.{All}
use Rattle.object_core.specs.Objects.{ObjectSeen}
use Rattle.object_core.specs.OneOwner.{FitsLimit}
use Rattle.object_core.proofs.lone_shelf.lengths_of.Given as goal

abbrev pub invariant-loop-place : goal.invariant-loop-place
invariant-loop-place l =
    (l.lengths.items ≡ map (λ (o : ObjectSeen). length o.journal) (take l.place l.objects)) × All FitsLimit (take l.place l.objects)
