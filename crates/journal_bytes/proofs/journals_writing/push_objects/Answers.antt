use Rattle.std.proofs.Common.{arith}
use Rattle.std.proofs.lemmas.Result.{err_from_is_err_and}
use Rattle.byte_fields.proofs.Pieces.{one_more, not_all}
use Rattle.std.proofs.Common.{subst, sym}
use Rattle.journal_bytes.specs.Limits.{HasFittingOps}
use Rattle.journal_bytes.specs.Spelling.{object_bytes}
use Rattle.journal_bytes.specs.Spelled.{object_spelled}
use Rattle.journal_bytes.proofs.journals_writing.push_objects.Goals as goal

pub push_object-requires : goal.push_object-requires
push_object-requires c = record {
  fit = subst HasFittingOps (sym c.object-item.is) (c.requires.fit c.loop-object.object-index c.object-item.result c.loop-object-test.true);
}

pub returns-in_err-push_object : goal.returns-in_err-push_object
returns-in_err-push_object c =
    let p = err_from_is_err_and c.from_residual.result c.from_residual.ensures.1 in
    rw p.1 (not_all object_bytes object_spelled c.args.objects.now c.loop-object.object-index c.object-item.result c.args.out.now c.loop-object.out c.push_object.new.out _ _
    c.loop-object-test.true c.object-item.is c.loop-object.invariant.written c.loop-object.invariant.capacity c.in_err-push_object.ensures)

pub loop-object-preserved : goal.loop-object-preserved
loop-object-preserved c = record {
  written = one_more object_bytes object_spelled c.args.objects.now c.loop-object.object-index c.args.out.now.items c.loop-object.out.items c.object-item.result c.loop-object-test.true c.object-item.is c.loop-object.invariant.written c.push_object.new.out.items c.in_ok-push_object.ensures.ok;
  capacity = omega (arith, c.loop-object.invariant.capacity, c.in_ok-push_object.ensures.capacity);
}
