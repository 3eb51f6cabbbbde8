use Rattle.std.proofs.Common.{◌≤◌, [], map, length}
use Rattle.byte_fields.specs.Readers.{items_behind}
use Rattle.byte_fields.proofs.Loops.{IsSoFar}
use Rattle.journal_bytes.specs.View.{entry_seen}
use Rattle.journal_bytes.specs.Reading.{entry_at}
use Rattle.journal_bytes.proofs.journals_reading.entries_of.Given as goal

abbrev pub invariant-loop : goal.invariant-loop
invariant-loop l = record {
  so_far : IsSoFar (λ _. entry_at l.bytes) l.count l.counter (map entry_seen l.entries.items) l.next (items_behind (λ _. entry_at l.bytes) l.count [] l.at);
  within : l.next ≤ length l.bytes;
}
