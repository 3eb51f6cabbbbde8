use Rattle.std.proofs.Common.{◌≤◌, [], length}
use Rattle.byte_fields.specs.Readers.{items_behind}
use Rattle.byte_fields.proofs.Loops.{IsSoFar}
use Rattle.taos_calculus.specs.ProofReading.{line_at}
use Rattle.taos_calculus.proofs.reading_lines.some_lines.Given as goal

abbrev pub invariant-loop : goal.invariant-loop
invariant-loop l = record {
  so_far : IsSoFar (λ _. line_at l.bytes l.nodes) l.count l.counter l.lines.items l.next (items_behind (λ _. line_at l.bytes l.nodes) l.count [] l.at);
  within : l.next ≤ length l.bytes;
}
