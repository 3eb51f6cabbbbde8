-- What goes between a node and a relay.
use Rattle.std.specs.Prelude.{◌≡◌, ◌≢◌, ℕ, ◌<◌, ◌≤◌, ◌^◌, List, [], ◌∷◌, ◌++◌, length}
use Rattle.std.specs.Int.{w32, to_be_bytes}
use Rattle.keyed_seal.specs.Keys.{Entries}
use Rattle.frame_link.specs.declared.outside.RelayAnswer.{RelayAnswer}
use Rattle.frame_link.specs.declared.outside.RelayAnswer.TheVariants.{Resealed, Refused, NoMemory}
use Rattle.frame_link.specs.Relay.{Said, Gave, Refuses, IsRelayCode}
use Rattle.relay_core.specs.declared.code.TheConstants.{MALFORMED}
use Rattle.relay_core.specs.declared.message.TheConstants.{ASK, ANSWER, RESEALED, NO_MEMORY, MAX_CERT}
use Rattle.relay_core.specs.Resealing.{resealed}

-- what a node writes to have a certificate resealed for it
abbrev pub asking : ℕ → List ℕ → List ℕ
asking node certificate = ASK ∷ (to_be_bytes w32 node ++ certificate)

-- what a relay writes of what it says
abbrev pub answering : Said → List ℕ
answering (Gave certificate) = ANSWER ∷ RESEALED ∷ certificate
answering (Refuses code) = ANSWER ∷ code ∷ []

-- what a relay writes when it is out of memory
abbrev pub lacking : List ℕ
lacking = ANSWER ∷ NO_MEMORY ∷ []

-- the payload spells this answer, with the certificate that it brings
abbrev pub IsAnswer : List ℕ → RelayAnswer → List ℕ → Type 0
IsAnswer payload Resealed out = (payload ≡ ANSWER ∷ RESEALED ∷ out) × (length out ≤ MAX_CERT)
IsAnswer payload (Refused code) out = (payload ≡ ANSWER ∷ code ∷ []) × IsRelayCode code × (out ≡ [])
IsAnswer payload NoMemory out = (payload ≡ lacking) × (out ≡ [])

-- the payload spells no answer
abbrev pub IsNoAnswer : List ℕ → Type 0
IsNoAnswer payload = (answer : RelayAnswer) (out : List ℕ) → ¬ IsAnswer payload answer out

-- the payload asks for no certificate
abbrev pub IsNoAsking : List ℕ → Type 0
IsNoAsking payload =
    (node : ℕ) (certificate : List ℕ) → node < 2 ^ 32 → payload ≢ asking node certificate

-- What a relay that has these keys writes to a payload: one that asks is answered by what is said
-- of its certificate, or that memory is lacking, and any other by code 1.
pub data Replies (issuers nodes : Entries) (payload reply : List ℕ) : Type 0 where
  is_said : (node : ℕ) (certificate : List ℕ) →
      node < 2 ^ 32 → payload ≡ asking node certificate →
      reply ≡ answering (resealed issuers nodes node certificate) →
      Replies issuers nodes payload reply
  is_lacking : (node : ℕ) (certificate : List ℕ) →
      node < 2 ^ 32 → payload ≡ asking node certificate → reply ≡ lacking →
      Replies issuers nodes payload reply
  is_no_asking :
      IsNoAsking payload → reply ≡ answering (Refuses MALFORMED) →
      Replies issuers nodes payload reply
