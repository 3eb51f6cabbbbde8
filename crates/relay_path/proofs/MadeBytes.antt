-- What a domain seals is made of bytes.
use Rattle.std.proofs.Common.{ℕ, ◌<◌, List, [], ◌∷◌, ◌++◌, length, arith, length-append}
use Rattle.std.specs.Int.{w32, to_be_bytes}
use Rattle.std.specs.List.{flat_map}
use Rattle.byte_fields.proofs.FieldLaws.{IsBytes, IsBytes-append, IsBytes-cons, IsBytes-number}
use Rattle.sealed_cert.proofs.SealedBytes.{no_bytes, sealed_bytes}
use Rattle.frame_link.specs.Relay.{Said, Gave, Refuses}
use Rattle.relay_path.specs.declared.answer.Target.{Target}
use Rattle.relay_path.specs.declared.answer.Target.TheVariants.{Node, Peer}
use Rattle.relay_path.specs.Carrying.{front_of}
use Rattle.relay_path.specs.Domains.{DomainKnows}
use Rattle.relay_path.specs.Hopping.{front_for, IsHop}
use Rattle.relay_path.specs.Hopping.{is_of_wrong_kind, is_malformed, is_of_nobody_known, is_badly_sealed, is_a_loop, goes_too_far, is_for_nobody_known, is_passed}

numbers_bytes : (xs : List ℕ) → IsBytes (flat_map (to_be_bytes w32) xs)
numbers_bytes [] = no_bytes
numbers_bytes (x ∷ xs) = IsBytes-append (to_be_bytes w32 x) (flat_map (to_be_bytes w32) xs) (IsBytes-number w32 x) (numbers_bytes xs)

front_bytes : (visited : List ℕ) → length visited < 256 → IsBytes (front_of visited)
front_bytes [] few = IsBytes-cons 1 [] (omega arith) no_bytes
front_bytes (v ∷ vs) few =
    IsBytes-cons 3 (length (v ∷ vs) ∷ flat_map (to_be_bytes w32) (v ∷ vs)) (omega arith) (IsBytes-cons (length (v ∷ vs)) (flat_map (to_be_bytes w32) (v ∷ vs)) few (numbers_bytes (v ∷ vs)))

target_bytes : (target : Target) (visited : List ℕ) → length visited < 256 → IsBytes (front_for target visited)
target_bytes (Node node) visited few = IsBytes-cons 2 [] (omega arith) no_bytes
target_bytes (Peer peer) visited few = front_bytes visited few

-- the bytes that are given
abbrev pub GivesBytes : Said → Type 0
GivesBytes (Gave made) = IsBytes made
GivesBytes (Refuses code) = Unit {0}

pub made_bytes : (d : DomainKnows) (target : Target) (given : List ℕ) (said : Said) → IsHop d target given said → GivesBytes said
made_bytes d target given said (is_of_wrong_kind is) = tt
made_bytes d target given said (is_malformed other nothing) = tt
made_bytes d target given said (is_of_nobody_known visited c tag is nobody) = tt
made_bytes d target given said (is_badly_sealed visited c tag key is known other) = tt
made_bytes d target given said (is_a_loop visited c opens again) = tt
made_bytes d target given said (goes_too_far visited c opens never full) = tt
made_bytes d target given said (is_for_nobody_known visited c opens never room nobody) = tt
made_bytes d target given said (is_passed visited c key opens never room known) =
    sealed_bytes (front_for target (visited ++ d.number ∷ [])) key c (target_bytes target (visited ++ d.number ∷ []) (omega (arith, length-append visited (d.number ∷ []), opens.presented.few)))
