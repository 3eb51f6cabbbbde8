use Rattle.std.proofs.Common.{◌≤◌, [], length}
use Rattle.byte_fields.specs.Readers.{items_behind}
use Rattle.byte_fields.proofs.Loops.{IsSoFar}
use Rattle.taos_calculus.specs.ProofReading.{node_at}
use Rattle.taos_calculus.proofs.reading_nodes.some_nodes.Given as goal

abbrev pub invariant-loop : goal.invariant-loop
invariant-loop l = record {
  so_far : IsSoFar (λ before. node_at l.bytes (length before)) l.count l.counter l.nodes.items l.next (items_behind (λ before. node_at l.bytes (length before)) l.count [] l.at);
  within : l.next ≤ length l.bytes;
}
