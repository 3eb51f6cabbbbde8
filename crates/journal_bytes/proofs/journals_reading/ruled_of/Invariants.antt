use Rattle.std.proofs.Common.{◌≤◌, [], map, length}
use Rattle.byte_fields.specs.Readers.{items_behind}
use Rattle.byte_fields.proofs.Loops.{IsSoFar}
use Rattle.object_core.specs.ObjectView.{object_entry}
use Rattle.journal_bytes.specs.Reading.{ruled_at}
use Rattle.journal_bytes.proofs.journals_reading.ruled_of.Given as goal

abbrev pub invariant-loop : goal.invariant-loop
invariant-loop l = record {
  so_far : IsSoFar (λ _. ruled_at l.bytes) l.count l.counter (map object_entry l.entries.items) l.next (items_behind (λ _. ruled_at l.bytes) l.count [] l.at);
  within : l.next ≤ length l.bytes;
}
