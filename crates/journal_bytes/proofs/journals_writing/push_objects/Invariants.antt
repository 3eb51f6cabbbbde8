use Rattle.std.proofs.Common.{◌≤◌, map}
use Rattle.std.specs.Prelude.{vec_capacity}
use Rattle.byte_fields.proofs.Pieces.{AreWritten}
use Rattle.journal_bytes.specs.Spelling.{object_bytes}
use Rattle.journal_bytes.specs.Spelled.{object_spelled}
use Rattle.journal_bytes.proofs.journals_writing.push_objects.Given as goal

abbrev pub invariant-loop-object : goal.invariant-loop-object
invariant-loop-object l = record {
  written : AreWritten object_bytes (map object_spelled l.objects) l.object-index l.fn.out.items l.out.items;
  capacity : vec_capacity l.fn.out ≤ vec_capacity l.out;
}
