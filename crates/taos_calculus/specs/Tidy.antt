-- Derivations without waste, and derivations that name only some principals.
use Rattle.std.specs.Prelude.{◌≡◌, ◌≢◌, ℕ, ◌+◌, ◌<◌, List, [], ◌∷◌, Some}
use Rattle.std.specs.Prelude.{slice_get, length, map, Contains, All, AllPairs}
use Rattle.prin_term.specs.declared.term.Anchor.{Anchor}
use Rattle.taos_calculus.specs.declared.line.Step.{Step}
use Rattle.prin_term.specs.Principal.{Principal}
use Rattle.taos_calculus.specs.Rules.{Claim, Judgement, Line, Proves, Derivable}
use Rattle.taos_calculus.specs.Saturation.{IsWithin, IsTable}

-- the numbers of the earlier lines that a step names
abbrev pub premises_of : Step → List ℕ
premises_of Step.Same = []
premises_of (Step.Chain i j) = i ∷ j ∷ []
premises_of Step.Left = []
premises_of Step.Right = []
premises_of (Step.Both i j) = i ∷ j ∷ []
premises_of (Step.Quote i j) = i ∷ j ∷ []
premises_of (Step.For i j) = i ∷ j ∷ []
premises_of Step.Role = []
premises_of (Step.RoleUnder i) = i ∷ []
premises_of (Step.Anchor i) = []
premises_of (Step.Said i) = []
premises_of (Step.Lift i j) = i ∷ j ∷ []
premises_of (Step.Join i j) = i ∷ j ∷ []
premises_of (Step.HandOff i) = i ∷ []
premises_of (Step.Delegate i) = i ∷ []

-- the number of the certificate that a step names
abbrev pub cites_of : Step → List ℕ
cites_of (Step.Said i) = i ∷ []
cites_of _ = []

-- the step with its numbers changed: those of lines by at, and that of a certificate by cite
abbrev pub moved : (ℕ → ℕ) → (ℕ → ℕ) → Step → Step
moved at cite Step.Same = Step.Same
moved at cite (Step.Chain i j) = Step.Chain (at i) (at j)
moved at cite Step.Left = Step.Left
moved at cite Step.Right = Step.Right
moved at cite (Step.Both i j) = Step.Both (at i) (at j)
moved at cite (Step.Quote i j) = Step.Quote (at i) (at j)
moved at cite (Step.For i j) = Step.For (at i) (at j)
moved at cite Step.Role = Step.Role
moved at cite (Step.RoleUnder i) = Step.RoleUnder (at i)
moved at cite (Step.Anchor i) = Step.Anchor i
moved at cite (Step.Said i) = Step.Said (cite i)
moved at cite (Step.Lift i j) = Step.Lift (at i) (at j)
moved at cite (Step.Join i j) = Step.Join (at i) (at j)
moved at cite (Step.HandOff i) = Step.HandOff (at i)
moved at cite (Step.Delegate i) = Step.Delegate (at i)

-- the facts of lines, in order
abbrev pub facts : List Line → List Judgement
facts lines = map (λ l. l.fact) lines

-- some derivation of the fact names only principals of which U holds
pub record DerivableWithin (U : Principal → Type 0) (anchors : List Anchor)
    (claims : List Claim) (fact : Judgement) : Type 0 where
  pub lines : List Line
  pub proves : Proves anchors claims lines fact
  pub within : All (λ l. IsWithin U l.fact) lines

-- no two lines have one fact, each line but the last is a premise of a later one, each cite is
-- used, and no two cites are alike
pub record IsTidy (lines : List Line) (cites : List ℕ) : Type 0 where
  -- no two lines have one fact
  pub distinct : AllPairs (λ l m. l.fact ≢ m.fact) lines
  -- each line but the last is a premise of a later one
  pub used : (k : ℕ) → k + 1 < length lines →
      (i : ℕ) × (l : Line) × (k < i) ×
      (slice_get lines i ≡ Some l) × Contains (premises_of l.step) k
  -- each cite is used
  pub cited : (k : ℕ) → k < length cites →
      (i : ℕ) × (l : Line) × (slice_get lines i ≡ Some l) × Contains (cites_of l.step) k
  -- no two cites are alike
  pub apart : AllPairs (λ c d. c ≢ d) cites

-- what is derivable and within the table has a derivation within the table
abbrev pub StaysWithin : List Anchor → List Claim → List Principal → Type 0
StaysWithin anchors claims table =
    IsTable (Contains table) claims →
    (fact : Judgement) → IsWithin (Contains table) fact →
    Derivable anchors claims fact → DerivableWithin (Contains table) anchors claims fact

-- which certificates there are counts, and not their order
abbrev pub DerivesMore : List Anchor → List Claim → List Claim → Type 0
DerivesMore anchors claims more =
    ((i : ℕ) (c : Claim) → slice_get claims i ≡ Some c → (k : ℕ) × (slice_get more k ≡ Some c)) →
    (fact : Judgement) → Derivable anchors claims fact → Derivable anchors more fact

-- what a proof without waste cites says different things, a claim for each cite
abbrev pub CitesDiffer : List Anchor → List Claim → List Line → List ℕ → Judgement → Type 0
CitesDiffer anchors said lines cites fact =
    length cites ≡ length said → Proves anchors said lines fact → IsTidy lines cites →
    AllPairs (λ c d. c ≢ d) said
