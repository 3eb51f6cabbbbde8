use Rattle.std.proofs.Common.{◌≡◌, ◌∷◌, ◌+◌, ◌*◌, ◌≤◌, length, map, take}
use Rattle.std.specs.List.{flat_map}
use Rattle.std.specs.Int.{w16}
use Rattle.byte_fields.specs.Steps.{counted}
use Rattle.cred_pull.proofs.wallet_answer.lay_answer.Given as goal

-- the certificates before the place are laid, each after its length
abbrev pub invariant-loop-cert : goal.invariant-loop-cert
invariant-loop-cert l = record {
  index : l.cert-index ≤ length l.certs;
  laid : l.reply.items ≡ 9 ∷ length l.certs ∷ flat_map (counted w16) (take l.cert-index (map (λ c. c.now) l.certs));
  room : length l.reply.items ≤ 2 + l.cert-index * 1026;
}
