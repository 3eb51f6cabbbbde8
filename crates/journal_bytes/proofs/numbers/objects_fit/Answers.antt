use Rattle.std.proofs.Common.{arith, subst, sym}
use Rattle.std.specs.Prelude.{All}
use Rattle.std.proofs.lemmas.List.{take_all}
use Rattle.std.proofs.lemmas.List.Elements.{All-more}
use Rattle.object_core.specs.Objects.{ObjectSeen}
use Rattle.journal_bytes.specs.Limits.{FitsObject, HasFittingOps}
use Rattle.journal_bytes.specs.Spelled.{object_spelled}
use Rattle.journal_bytes.proofs.numbers.objects_fit.Goals as goal

pub object_fits-requires : goal.object_fits-requires
object_fits-requires c = record {
  fit = subst HasFittingOps (sym c.object-item.is) (c.requires.fit c.loop-object.object-index c.object-item.result c.loop-object-test.true);
}

pub loop-object-preserved : goal.loop-object-preserved
loop-object-preserved c =
    All-more (λ (o : ObjectSeen). FitsObject (object_spelled o)) c.args.objects.now c.loop-object.object-index c.object-item.result c.loop-object-test.true c.loop-object.invariant (subst (λ (o : ObjectSeen). FitsObject (object_spelled o)) c.object-item.is c.object_fits.ensures)

pub returns : goal.returns
returns c = subst (All (λ (o : ObjectSeen). FitsObject (object_spelled o))) (take_all c.loop-object.object-index c.args.objects.now (omega (arith, c.loop-object-test.false))) c.loop-object.invariant
