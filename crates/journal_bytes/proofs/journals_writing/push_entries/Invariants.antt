use Rattle.std.proofs.Common.{◌≤◌, map}
use Rattle.std.specs.Prelude.{vec_capacity}
use Rattle.byte_fields.proofs.Pieces.{AreWritten}
use Rattle.journal_bytes.specs.Spelling.{entry_bytes}
use Rattle.journal_bytes.specs.View.{entry_spelled}
use Rattle.journal_bytes.proofs.journals_writing.push_entries.Given as goal

abbrev pub invariant-loop-entry : goal.invariant-loop-entry
invariant-loop-entry l = record {
  written : AreWritten entry_bytes (map entry_spelled l.journal) l.entry-index l.fn.out.items l.out.items;
  capacity : vec_capacity l.fn.out ≤ vec_capacity l.out;
}
