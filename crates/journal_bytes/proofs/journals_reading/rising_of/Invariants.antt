use Rattle.std.proofs.Common.{◌≤◌, [], map, length}
use Rattle.byte_fields.specs.Readers.{items_behind}
use Rattle.byte_fields.proofs.Loops.{IsSoFar}
use Rattle.journal_bytes.specs.JournalsReading.{object_at, IsLeastAbove}
use Rattle.journal_bytes.specs.View.{object_seen}
use Rattle.journal_bytes.proofs.journals_reading.rising_of.Given as goal

abbrev pub invariant-loop : goal.invariant-loop
invariant-loop l = record {
  so_far : IsSoFar (object_at l.bytes) l.count l.counter (map object_seen l.objects.items) l.next (items_behind (object_at l.bytes) l.count [] l.at);
  least : IsLeastAbove l.least (map object_seen l.objects.items);
  within : l.next ≤ length l.bytes;
}
