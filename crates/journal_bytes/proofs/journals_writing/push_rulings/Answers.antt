use Rattle.std.proofs.Common.{arith}
use Rattle.std.proofs.lemmas.Result.{err_from_is_err_and}
use Rattle.byte_fields.proofs.Pieces.{one_more, not_all, this_one}
use Rattle.object_core.specs.Objects.{ObjectEntry}
use Rattle.object_core.specs.Operation.{FitsOperation}
use Rattle.journal_bytes.specs.Spelling.{ruled_bytes}
use Rattle.object_core.specs.ObjectView.{object_entry}
use Rattle.journal_bytes.proofs.journals_writing.push_rulings.Goals as goal

pub push_ruled-requires : goal.push_ruled-requires
push_ruled-requires c = record {
  limits = this_one (λ (e : ObjectEntry). FitsOperation e.op) object_entry c.args.journal.now c.loop-entry.entry-index c.entry-item.result c.loop-entry-test.true c.entry-item.is c.requires.fit;
}

pub returns-in_err-push_ruled : goal.returns-in_err-push_ruled
returns-in_err-push_ruled c =
    let p = err_from_is_err_and c.from_residual.result c.from_residual.ensures.1 in
    rw p.1 (not_all ruled_bytes object_entry c.args.journal.now c.loop-entry.entry-index c.entry-item.result c.args.out.now c.loop-entry.out c.push_ruled.new.out _ _
    c.loop-entry-test.true c.entry-item.is c.loop-entry.invariant.written c.loop-entry.invariant.capacity c.in_err-push_ruled.ensures)

pub loop-entry-preserved : goal.loop-entry-preserved
loop-entry-preserved c = record {
  written = one_more ruled_bytes object_entry c.args.journal.now c.loop-entry.entry-index c.args.out.now.items c.loop-entry.out.items c.entry-item.result c.loop-entry-test.true c.entry-item.is c.loop-entry.invariant.written c.push_ruled.new.out.items c.in_ok-push_ruled.ensures.ok;
  capacity = omega (arith, c.loop-entry.invariant.capacity, c.in_ok-push_ruled.ensures.capacity);
}
