use Rattle.std.proofs.Common.{arith}
use Rattle.std.proofs.lemmas.Result.{err_from_is_err_and}
use Rattle.byte_fields.proofs.Pieces.{one_more, not_all, this_one}
use Rattle.agent_core.specs.Journals.{Entry}
use Rattle.journal_bytes.specs.Limits.{AreCountable}
use Rattle.journal_bytes.specs.Spelling.{entry_bytes}
use Rattle.agent_core.specs.Views.{entry_of}
use Rattle.journal_bytes.specs.View.{entry_spelled}
use Rattle.journal_bytes.proofs.journals_writing.push_entries.Goals as goal

pub push_entry-requires : goal.push_entry-requires
push_entry-requires c = record {
  few = this_one (λ (e : Entry). AreCountable e.event) entry_of c.args.journal.now c.loop-entry.entry-index c.entry-item.result c.loop-entry-test.true c.entry-item.is c.requires.few;
}

pub returns-in_err-push_entry : goal.returns-in_err-push_entry
returns-in_err-push_entry c =
    let p = err_from_is_err_and c.from_residual.result c.from_residual.ensures.1 in
    rw p.1 (not_all entry_bytes entry_spelled c.args.journal.now c.loop-entry.entry-index c.entry-item.result c.args.out.now c.loop-entry.out c.push_entry.new.out _ _
    c.loop-entry-test.true c.entry-item.is c.loop-entry.invariant.written c.loop-entry.invariant.capacity c.in_err-push_entry.ensures)

pub loop-entry-preserved : goal.loop-entry-preserved
loop-entry-preserved c = record {
  written = one_more entry_bytes entry_spelled c.args.journal.now c.loop-entry.entry-index c.args.out.now.items c.loop-entry.out.items c.entry-item.result c.loop-entry-test.true c.entry-item.is c.loop-entry.invariant.written c.push_entry.new.out.items c.in_ok-push_entry.ensures.ok;
  capacity = omega (arith, c.loop-entry.invariant.capacity, c.in_ok-push_entry.ensures.capacity);
}
