use Rattle.std.proofs.Common.{◌≤◌, [], map, length}
use Rattle.node_file.specs.OpeningReading.{common_at}
use Rattle.node_file.specs.OpeningView.{common}
use Rattle.byte_fields.specs.Readers.{items_behind}
use Rattle.byte_fields.proofs.Loops.{IsSoFar}
use Rattle.node_file.proofs.opening.common.certs_of.Given as goal

abbrev pub invariant-loop : goal.invariant-loop
invariant-loop l = record {
  so_far : IsSoFar (common_at l.bytes l.sealer) l.count l.counter (map common l.commons.items) l.next (items_behind (common_at l.bytes l.sealer) l.count [] l.at);
  within : l.next ≤ length l.bytes;
}
