use Rattle.std.specs.Prelude.{All, take}
use Rattle.object_core.specs.Objects.{ObjectSeen}
use Rattle.journal_bytes.specs.Limits.{FitsObject}
use Rattle.journal_bytes.specs.Spelled.{object_spelled}
use Rattle.journal_bytes.proofs.numbers.objects_fit.Given as goal

abbrev pub invariant-loop-object : goal.invariant-loop-object
invariant-loop-object l = All (λ (o : ObjectSeen). FitsObject (object_spelled o)) (take l.object-index l.objects)
