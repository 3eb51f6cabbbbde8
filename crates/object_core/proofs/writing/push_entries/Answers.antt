use Rattle.std.proofs.Common.{arith}
use Rattle.std.proofs.lemmas.Result.{err_from_is_err_and}
use Rattle.prin_term.specs.View.{grant}
use Rattle.byte_fields.proofs.Pieces.{one_more, not_all}
use Rattle.object_core.specs.Spelling.{grant_bytes}
use Rattle.object_core.proofs.writing.push_entries.Goals as goal

pub returns-in_err-push_entry : goal.returns-in_err-push_entry
returns-in_err-push_entry c =
    let p = err_from_is_err_and c.from_residual.result c.from_residual.ensures.1 in
    rw p.1 (not_all grant_bytes grant c.args.list.now c.loop-entry.entry-index c.entry-item.result c.args.out.now c.loop-entry.out c.push_entry.new.out _ _
    c.loop-entry-test.true c.entry-item.is c.loop-entry.invariant.written c.loop-entry.invariant.capacity c.in_err-push_entry.ensures)

pub loop-entry-preserved : goal.loop-entry-preserved
loop-entry-preserved c = record {
  written = one_more grant_bytes grant c.args.list.now c.loop-entry.entry-index c.args.out.now.items c.loop-entry.out.items c.entry-item.result c.loop-entry-test.true c.entry-item.is c.loop-entry.invariant.written c.push_entry.new.out.items c.in_ok-push_entry.ensures.ok;
  capacity = omega (arith, c.loop-entry.invariant.capacity, c.in_ok-push_entry.ensures.capacity);
}
