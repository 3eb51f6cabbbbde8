-- Why a search among finitely many principals misses nothing.
use Rattle.std.specs.Prelude.{◌≡◌, ℕ, List, Some, slice_get, All, Contains}
use Rattle.prin_term.specs.declared.term.Anchor.{Anchor}
use Rattle.prin_term.specs.Principal.{Principal, operands}
use Rattle.taos_calculus.specs.Rules.{Claim, Judgement, SpeaksFor, Says, Line, Follows, Derivable}

-- the fact's principals all satisfy U
abbrev pub IsWithin : (Principal → Type 0) → Judgement → Type 0
IsWithin U (SpeaksFor a b) = U a × U b
IsWithin U (Says a l r) = U a × U l × U r

-- U holds of the principals of the certificates, and with a principal of its operands; the anchors
-- need not be in it
pub record IsTable (U : Principal → Type 0) (claims : List Claim) : Type 0 where
  -- with a principal, its operands are in it
  pub operands_in : (p : Principal) → U p → All U (operands p)
  -- the principals of the certificates are in it
  pub claims_in : (i : ℕ) (claim : Claim) → slice_get claims i ≡ Some claim →
      U claim.speaker × U claim.left × U claim.right

-- what follows from known facts by one rule is known, as far as U goes
abbrev pub IsSaturated : (Principal → Type 0) →
    (Judgement → Type 0) → List Anchor → List Claim → Type 0
IsSaturated U Known anchors claims =
    (earlier : List Judgement) (line : Line) →
    All Known earlier → Follows anchors claims earlier line → IsWithin U line.fact → Known line.fact

-- a saturated set over a table holds each derivable fact within the table, whatever the derivation
-- names
abbrev pub HasEveryFact : List Anchor → List Claim → List Principal → List Judgement → Type 0
HasEveryFact anchors claims table known =
    IsTable (Contains table) claims →
    IsSaturated (Contains table) (Contains known) anchors claims →
    (fact : Judgement) → IsWithin (Contains table) fact →
    Derivable anchors claims fact → Contains known fact
