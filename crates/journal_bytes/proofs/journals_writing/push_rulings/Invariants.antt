use Rattle.std.proofs.Common.{◌≤◌, map}
use Rattle.std.specs.Prelude.{vec_capacity}
use Rattle.byte_fields.proofs.Pieces.{AreWritten}
use Rattle.journal_bytes.specs.Spelling.{ruled_bytes}
use Rattle.object_core.specs.ObjectView.{object_entry}
use Rattle.journal_bytes.proofs.journals_writing.push_rulings.Given as goal

abbrev pub invariant-loop-entry : goal.invariant-loop-entry
invariant-loop-entry l = record {
  written : AreWritten ruled_bytes (map object_entry l.journal) l.entry-index l.fn.out.items l.out.items;
  capacity : vec_capacity l.fn.out ≤ vec_capacity l.out;
}
