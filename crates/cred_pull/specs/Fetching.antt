-- A fetch of the caller's certificates: what it tells, and what a call of it answers.
use Rattle.std.specs.Prelude.{◌≡◌, ℕ, ◌≤◌, List, [], ◌∷◌, length, map, All, Option, None, Some, Result, Ok, Err, ⊤}
use Rattle.frame_link.specs.Faults.{Rose}
use Rattle.taos_wire.specs.declared.request.TheConstants.{MAX_CERTS}
use Rattle.taos_wire.specs.Request.{IsCertText}
use Rattle.taos_wire.specs.View.{text_of}
use Rattle.cred_pull.specs.declared.fetch.Fetched.{Fetched}
use Rattle.cred_pull.specs.declared.fetch.Fetched.TheVariants as answers

-- the bytes of certificates, in order
abbrev pub Texts : Type 0
Texts = List (List ℕ)

-- a fetch, as contracts see it
pub record FetchSeen : Type 0 where
  -- the answers that are left, in order, where the fetch tells them
  pub left : Option (List Texts)
  -- how often a call has failed
  pub faults : ℕ

-- a fetch of these
abbrev pub fetch_of : Option (List Texts) → ℕ → FetchSeen
fetch_of left faults = record { left = left; faults = faults }

-- what a call answered: certificates, by their bytes; that memory was refused; that it failed
pub data Pull : Type 0 where
  Gave : Texts → Pull
  Lacked : Pull
  Failed : Pull

-- the program's answer as this
abbrev pub pull_of : {E : Type 0} → Result Fetched E → Pull
pull_of (Ok (answers.Given certs)) = Gave (map text_of certs.items)
pull_of (Ok answers.NoMemory) = Lacked
pull_of (Err e) = Failed

-- the first of the answers that are left is given and leaves them; no certificate is given where
-- none is left
abbrev pub GivesFirst : (before after : Option (List Texts)) → Texts → Type 0
GivesFirst None after certs = ⊤
GivesFirst (Some left) None certs = ⊥
GivesFirst (Some []) (Some rest) certs = (certs ≡ []) × (rest ≡ [])
GivesFirst (Some (first ∷ left)) (Some rest) certs = (certs ≡ first) × (rest ≡ left)

-- only an answer that gives certificates changes those that are left
abbrev pub GivesAnswer : (before after : FetchSeen) → Pull → Type 0
GivesAnswer before after (Gave certs) = GivesFirst before.left after.left certs
GivesAnswer before after Lacked = after.left ≡ before.left
GivesAnswer before after Failed = after.left ≡ before.left

-- at most 16 certificates, each of fewer than 65,536 bytes
pub record AreWithin (certs : Texts) : Type 0 where
  pub few : length certs ≤ MAX_CERTS
  pub each : All IsCertText certs

-- what is given is within these bounds
abbrev pub IsWithin : Pull → Type 0
IsWithin (Gave certs) = AreWithin certs
IsWithin Lacked = ⊤
IsWithin Failed = ⊤

-- the count of failures rose where the call failed, and else stayed as it was
abbrev pub CountsPull : (before after : ℕ) → Pull → Type 0
CountsPull before after (Gave certs) = after ≡ before
CountsPull before after Lacked = after ≡ before
CountsPull before after Failed = (before ≤ after) × Rose before after

-- one call of a fetch
pub record IsFetched (before after : FetchSeen) (pull : Pull) : Type 0 where
  pub gives : GivesAnswer before after pull
  pub within : IsWithin pull
  pub counts : CountsPull before.faults after.faults pull
