-- What a search asks for: goals, and what answers them.
use Rattle.std.specs.Prelude.{◌≡◌, ℕ, List, Some, slice_get}
use Rattle.prin_term.specs.declared.term.Anchor.{Anchor}
use Rattle.prin_term.specs.Principal.{Principal}
use Rattle.taos_calculus.specs.Rules.{Claim, Judgement, SpeaksFor, Says, Derivable}

-- what a row is asked for; P are principals, or the numbers of principals
pub data Goal (P : Type 0) : Type 0 where
  -- all that this one speaks for
  ForWhom : P → Goal P
  -- all who say that the left one speaks for the right one
  WhoSays : (left right : P) → Goal P

-- the judgement that p answers the goal
abbrev pub judgement_of : Goal Principal → Principal → Judgement
judgement_of (ForWhom a) p = SpeaksFor a p
judgement_of (WhoSays l r) p = Says p l r

-- p answers the goal, by a derivation through any principals whatever
abbrev pub IsAnswer : List Anchor → List Claim → Goal Principal → Principal → Type 0
IsAnswer anchors claims goal p = Derivable anchors claims (judgement_of goal p)

-- row x has what answers the goal at once: the principal itself, or the speaker of each certificate
-- that makes the statement. `Has x` tells the principals of row x.
abbrev pub Begins : {X : Type 0} →
    (X → Principal → Type 0) → List Claim → Goal Principal → X → Type 0
Begins Has claims (ForWhom a) x = Has x a
Begins Has claims (WhoSays l r) x =
    (i : ℕ) (claim : Claim) → slice_get claims i ≡ Some claim →
    claim.left ≡ l → claim.right ≡ r → Has x claim.speaker

-- a row has answers of the goal alone
abbrev pub IsSound : List Anchor → List Claim → Goal Principal → (Principal → Type 0) → Type 0
IsSound anchors claims goal In = (p : Principal) → In p → IsAnswer anchors claims goal p
