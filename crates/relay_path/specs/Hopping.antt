-- What a domain says of a certificate that comes to it, for a node of its own or for a peer.
use Rattle.std.specs.Prelude.{◌≡◌, ◌≢◌, ℕ, ◌<◌, ◌≤◌, List, [], ◌∷◌, ◌++◌, length}
use Rattle.std.specs.Prelude.{slice_index, Contains, Option, Some, None}
use Rattle.keyed_seal.specs.Keys.{key_of}
use Rattle.keyed_seal.specs.Tag.{tag_of}
use Rattle.stmt_codec.specs.Certificates.{Certificate}
use Rattle.sealed_cert.specs.declared.kind.TheConstants.{RELAYED}
use Rattle.sealed_cert.specs.Seals.{sealed_after, text_after}
use Rattle.frame_link.specs.Relay.{Said, Gave, Refuses}
use Rattle.relay_core.specs.declared.code.TheConstants.{MALFORMED, UNKNOWN_ISSUER, BAD_SEAL, WRONG_KIND, UNKNOWN_NODE}
use Rattle.relay_core.specs.Resealing.{IsRelayed}
use Rattle.relay_path.specs.declared.code.TheConstants.{UNKNOWN_SENDER, LOOP, TOO_FAR, UNKNOWN_PEER}
use Rattle.relay_path.specs.declared.limits.TheConstants.{MAX_VISITED}
use Rattle.relay_path.specs.declared.answer.Target.{Target}
use Rattle.relay_path.specs.declared.answer.Target.TheVariants.{Node, Peer}
use Rattle.relay_path.specs.declared.answer.HopAnswer.{HopAnswer}
use Rattle.relay_path.specs.declared.answer.HopAnswer.TheVariants as hops
use Rattle.relay_path.specs.Carrying.{front_of, Presents}
use Rattle.relay_path.specs.Domains.{DomainKnows}

-- the key that a domain has for who sealed the certificate: the domain that it visited last, or its
-- issuer, where it visited none
abbrev pub sender_key : DomainKnows → List ℕ → ℕ → Option (List ℕ)
sender_key d [] issuer = key_of d.issuers issuer
sender_key d (first ∷ more) issuer = key_of d.peers (slice_index (first ∷ more) (length more))

-- the code where there is no such key
abbrev pub unknown_sender : List ℕ → ℕ
unknown_sender [] = UNKNOWN_ISSUER
unknown_sender (first ∷ more) = UNKNOWN_SENDER

-- the bytes are c, sealed under the key that the domain has for who sealed it
pub record OpensHere (d : DomainKnows) (visited bytes : List ℕ) (c : Certificate) : Type 0 where
  pub key : List ℕ
  pub known : sender_key d visited c.issuer ≡ Some key
  pub presented : Presents visited bytes c (tag_of key (text_after (front_of visited) c))

-- it would come to a domain a second time
pub data Returns (number : ℕ) (visited : List ℕ) : Target → Type 0 where
  here : (target : Target) → Contains visited number → Returns number visited target
  there : (peer : ℕ) → Contains visited peer → Returns number visited (Peer peer)
  itself : (peer : ℕ) → peer ≡ number → Returns number visited (Peer peer)

-- one more domain may stand among those that it visited, where it goes to a peer
abbrev pub HasRoom : Target → List ℕ → Type 0
HasRoom (Node node) visited = Unit {0}
HasRoom (Peer peer) visited = length visited < MAX_VISITED

-- the key that the domain has for the target
abbrev pub target_key : DomainKnows → Target → Option (List ℕ)
target_key d (Node node) = key_of d.nodes node
target_key d (Peer peer) = key_of d.peers peer

-- the code where there is no such key
abbrev pub unknown_target : Target → ℕ
unknown_target (Node node) = UNKNOWN_NODE
unknown_target (Peer peer) = UNKNOWN_PEER

-- what stands before the body for the target, of a certificate that visited these domains
abbrev pub front_for : Target → List ℕ → List ℕ
front_for (Node node) visited = RELAYED ∷ []
front_for (Peer peer) visited = front_of visited

-- what is sealed for the target, when the domain is among those that were visited
abbrev pub passed : DomainKnows → Target → List ℕ → List ℕ → Certificate → List ℕ
passed d target visited key c =
    sealed_after (front_for target (visited ++ d.number ∷ [])) key c

-- What is said, a case for each answer. The code of a refusal is that of the first case that holds, from
-- above: each has beside it that none before it does.
pub data IsHop (d : DomainKnows) (target : Target) (bytes : List ℕ) : Said → Type 0 where
  is_of_wrong_kind :
      IsRelayed bytes →
      IsHop d target bytes (Refuses WRONG_KIND)
  is_malformed :
      ¬ IsRelayed bytes →
      ((visited : List ℕ) (c : Certificate) (tag : List ℕ) → ¬ Presents visited bytes c tag) →
      IsHop d target bytes (Refuses MALFORMED)
  is_of_nobody_known : (visited : List ℕ) (c : Certificate) (tag : List ℕ) →
      Presents visited bytes c tag → sender_key d visited c.issuer ≡ None →
      IsHop d target bytes (Refuses (unknown_sender visited))
  is_badly_sealed : (visited : List ℕ) (c : Certificate) (tag key : List ℕ) →
      Presents visited bytes c tag → sender_key d visited c.issuer ≡ Some key →
      tag ≢ tag_of key (text_after (front_of visited) c) →
      IsHop d target bytes (Refuses BAD_SEAL)
  is_a_loop : (visited : List ℕ) (c : Certificate) →
      OpensHere d visited bytes c → Returns d.number visited target →
      IsHop d target bytes (Refuses LOOP)
  goes_too_far : (visited : List ℕ) (c : Certificate) →
      OpensHere d visited bytes c → ¬ Returns d.number visited target → ¬ HasRoom target visited →
      IsHop d target bytes (Refuses TOO_FAR)
  is_for_nobody_known : (visited : List ℕ) (c : Certificate) →
      OpensHere d visited bytes c → ¬ Returns d.number visited target → HasRoom target visited →
      target_key d target ≡ None →
      IsHop d target bytes (Refuses (unknown_target target))
  is_passed : (visited : List ℕ) (c : Certificate) (key : List ℕ) →
      OpensHere d visited bytes c → ¬ Returns d.number visited target → HasRoom target visited →
      target_key d target ≡ Some key →
      IsHop d target bytes (Gave (passed d target visited key c))

-- an answer and what stands in the buffer for it
abbrev pub IsHopSaid : Said → HopAnswer → List ℕ → Type 0
IsHopSaid said hops.NoMemory out = out ≡ []
IsHopSaid (Gave bytes) hops.Passed out = out ≡ bytes
IsHopSaid (Gave bytes) (hops.Refused code) out = ⊥
IsHopSaid (Refuses code) hops.Passed out = ⊥
IsHopSaid (Refuses code) (hops.Refused c) out = (c ≡ code) × (out ≡ [])

-- the codes by which a domain refuses: 6 is none of them
abbrev pub IsHopCode : ℕ → Type 0
IsHopCode code = (1 ≤ code) × (code ≤ 10) × (code ≢ 6)

-- a refusal has such a code
abbrev pub HasHopCode : HopAnswer → Type 0
HasHopCode hops.Passed = Unit {0}
HasHopCode (hops.Refused code) = IsHopCode code
HasHopCode hops.NoMemory = Unit {0}
