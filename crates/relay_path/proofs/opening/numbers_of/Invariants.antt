use Rattle.std.proofs.Common.{◌≡◌, ◌≤◌, [], length}
use Rattle.std.specs.Int.{w32}
use Rattle.byte_fields.specs.Readers.{items_behind}
use Rattle.byte_fields.specs.Steps.{number_at}
use Rattle.byte_fields.proofs.Loops.{IsSoFar}
use Rattle.relay_path.specs.Opening.{malformed}
use Rattle.relay_path.proofs.opening.numbers_of.Given as goal

abbrev pub invariant-loop : goal.invariant-loop
invariant-loop l = record {
  so_far : IsSoFar (λ _. number_at malformed w32 l.bytes) l.count l.counter l.visited.items l.next (items_behind (λ _. number_at malformed w32 l.bytes) l.count [] l.at);
  within : l.next ≤ length l.bytes;
  long : length l.visited.items ≡ l.counter;
}
