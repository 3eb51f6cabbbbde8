use Rattle.std.proofs.Common.{◌≤◌, map}
use Rattle.std.specs.Prelude.{vec_capacity}
use Rattle.prin_term.specs.View.{grant}
use Rattle.byte_fields.proofs.Pieces.{AreWritten}
use Rattle.object_core.specs.Spelling.{grant_bytes}
use Rattle.object_core.proofs.writing.push_entries.Given as goal

abbrev pub invariant-loop-entry : goal.invariant-loop-entry
invariant-loop-entry l = record {
  written : AreWritten grant_bytes (map grant l.list) l.entry-index l.fn.out.items l.out.items;
  capacity : vec_capacity l.fn.out ≤ vec_capacity l.out;
}
