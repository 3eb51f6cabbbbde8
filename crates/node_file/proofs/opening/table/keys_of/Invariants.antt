use Rattle.std.proofs.Common.{◌≡◌, ◌≤◌, ℕ, List, [], length}
use Rattle.node_file.specs.OpeningReading.{channel_at}
use Rattle.prin_text.specs.Held.{HoldsKeys}
use Rattle.byte_fields.specs.Readers.{items_behind}
use Rattle.byte_fields.proofs.Loops.{IsSoFar}
use Rattle.node_file.proofs.opening.table.keys_of.Given as goal

abbrev pub invariant-loop : goal.invariant-loop
invariant-loop l = record {
  before : List (ℕ × List ℕ);
  held : HoldsKeys l.table before;
  so_far : IsSoFar (channel_at l.bytes) l.count l.counter before l.next (items_behind (channel_at l.bytes) l.count [] l.at);
  within : l.next ≤ length l.bytes;
  filled : length l.table.entries ≡ l.counter;
  room : l.table.room ≡ l.count;
}
