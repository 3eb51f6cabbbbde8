-- Rows, and when they are finished. A row is a set of principals: `Has x` tells those of row x.
-- `Finished` tells which rows there are to rely on; they vouch for one another.
use Rattle.std.specs.Prelude.{◌≡◌, ◌⊎◌, ℕ, List, Some, slice_get, All}
use Rattle.prin_term.specs.declared.term.Anchor.{Anchor}
use Rattle.prin_term.specs.Principal.{Principal, Key, Name, And, Quoting, InRole, For, operands}
use Rattle.taos_calculus.specs.Rules.{Claim}
use Rattle.goal_search.specs.Goals.{Goal, ForWhom, WhoSays, Begins}

-- some finished row begins with the goal and lacks p, so p does not answer it
pub record Refuses {X : Type 0} (Finished : X → Type 0) (Has : X → Principal → Type 0)
    (claims : List Claim) (goal : Goal Principal) (p : Principal) : Type 0 where
  pub row : X
  pub finished : Finished row
  pub begins : Begins Has claims goal row
  pub lacks : Has row p → ⊥

-- the statement is said neither by its right side nor, where it is a delegation, by the one who
-- delegates
pub record IsUnheard {X : Type 0} (Finished : X → Type 0) (Has : X → Principal → Type 0)
    (claims : List Claim) (l r : Principal) : Type 0 where
  pub by_right : Refuses Finished Has claims (WhoSays l r) r
  pub by_delegator : (a b : Principal) → l ≡ Quoting b a → r ≡ For b a →
      Refuses Finished Has claims (WhoSays l r) a

-- U holds of the principals that rows are looked at for
pub record AreTargets {X : Type 0} (U : Principal → Type 0) (claims : List Claim)
    (Finished : X → Type 0) (Has : X → Principal → Type 0) : Type 0 where
  -- with a principal, its operands
  pub operands_in : (p : Principal) → U p → All U (operands p)
  -- the left side of each certificate
  pub left_in : (i : ℕ) (claim : Claim) → slice_get claims i ≡ Some claim → U claim.left
  -- the right side of a certificate, if the left side is in a finished row
  pub right_in : (i : ℕ) (claim : Claim) (x : X) → slice_get claims i ≡ Some claim →
      Finished x → Has x claim.left → U claim.right

-- As far as U goes, row x has what a rule gives from its own members; and what it lacks of what the
-- other rules might give from them, finished rows refuse.
pub record IsFinished {X : Type 0} (U : Principal → Type 0)
    (anchors : List Anchor) (claims : List Claim)
    (Finished : X → Type 0) (Has : X → Principal → Type 0) (x : X) : Type 0 where
  pub left : (a b : Principal) → Has x (And a b) → Has x a
  pub right : (a b : Principal) → Has x (And a b) → Has x b
  pub both : (a b : Principal) → Has x a → Has x b → U (And a b) → Has x (And a b)
  pub role : (a : Principal) (r : ℕ) → Has x a → U (InRole a r) → Has x (InRole a r)
  pub anchored : (i : ℕ) (anchor : Anchor) → slice_get anchors i ≡ Some anchor →
      Has x (Key anchor.key) → U (Name anchor.name) → Has x (Name anchor.name)
  -- a target of the form is there, or one of its parts is refused to the member's
  pub quoting : (a b c d : Principal) → Has x (Quoting a b) → U (Quoting c d) →
      Has x (Quoting c d) ⊎
      Refuses Finished Has claims (ForWhom a) c ⊎ Refuses Finished Has claims (ForWhom b) d
  pub for_both : (a b c d : Principal) → Has x (For a b) → U (For c d) →
      Has x (For c d) ⊎
      Refuses Finished Has claims (ForWhom a) c ⊎ Refuses Finished Has claims (ForWhom b) d
  pub role_under : (a c : Principal) (r : ℕ) → Has x (InRole a r) → U (InRole c r) →
      Has x (InRole c r) ⊎ Refuses Finished Has claims (ForWhom a) c
  -- for whom a member speaks by a certificate is there, or the certificate is not heard
  pub handed : (i : ℕ) (claim : Claim) → slice_get claims i ≡ Some claim →
      Has x claim.left →
      Has x claim.right ⊎ IsUnheard Finished Has claims claim.left claim.right
