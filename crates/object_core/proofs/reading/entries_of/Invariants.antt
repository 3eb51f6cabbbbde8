use Rattle.std.proofs.Common.{◌≤◌, [], map, length}
use Rattle.byte_fields.specs.Readers.{items_behind}
use Rattle.prin_term.specs.View.{grant}
use Rattle.byte_fields.proofs.Loops.{IsSoFar}
use Rattle.object_core.specs.Reading.{entry_at}
use Rattle.object_core.proofs.reading.entries_of.Given as goal

abbrev pub invariant-loop : goal.invariant-loop
invariant-loop l = record {
  so_far : IsSoFar (λ _. entry_at l.bytes) l.count l.counter (map grant l.list.items) l.next (items_behind (λ _. entry_at l.bytes) l.count [] l.at);
  within : l.next ≤ length l.bytes;
}
