use Rattle.std.proofs.Common.{◌≡◌, ◌≤◌, [], map, length}
use Rattle.byte_fields.specs.Readers.{items_behind}
use Rattle.byte_fields.proofs.Loops.{IsSoFar}
use Rattle.taos_wire.specs.RequestReading.{cert_at}
use Rattle.cred_pull.proofs.answer.texts_of.Given as goal

-- as many texts as items were read, and behind them stands the rest
abbrev pub invariant-loop : goal.invariant-loop
invariant-loop l = record {
  so_far : IsSoFar (λ _. cert_at l.payload) l.count l.counter (map (λ t. t.now) l.texts.items) l.next (items_behind (λ _. cert_at l.payload) l.count [] l.at);
  within : l.next ≤ length l.payload;
  many : length l.texts.items ≡ l.counter;
}
