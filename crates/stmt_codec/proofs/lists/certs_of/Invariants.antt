use Rattle.std.proofs.Common.{◌≤◌, [], map, length}
use Rattle.byte_fields.specs.Readers.{items_behind}
use Rattle.stmt_codec.specs.View.{certificate_of}
use Rattle.byte_fields.proofs.Loops.{IsSoFar}
use Rattle.stmt_codec.specs.Lists.{cert_at}
use Rattle.stmt_codec.proofs.lists.certs_of.Given as goal

abbrev pub invariant-loop : goal.invariant-loop
invariant-loop l = record {
  so_far : IsSoFar (λ _. cert_at l.bytes) l.count l.counter (map certificate_of l.certs.items) l.next (items_behind (λ _. cert_at l.bytes) l.count [] l.at);
  within : l.next ≤ length l.bytes;
}
