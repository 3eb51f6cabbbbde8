use Rattle.std.proofs.Common.{◌≤◌, [], length}
use Rattle.node_file.specs.OpeningReading.{anchor_at}
use Rattle.byte_fields.specs.Readers.{items_behind}
use Rattle.byte_fields.proofs.Loops.{IsSoFar}
use Rattle.node_file.proofs.opening.table.names_of.Given as goal

abbrev pub invariant-loop : goal.invariant-loop
invariant-loop l = record {
  so_far : IsSoFar (anchor_at l.bytes) l.count l.counter l.anchors.items l.next (items_behind (anchor_at l.bytes) l.count [] l.at);
  within : l.next ≤ length l.bytes;
}
