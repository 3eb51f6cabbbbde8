-- Rows over the numbers of a table of nodes, for a program that finishes them: `Has x` tells the
-- numbers of row x.
use Rattle.std.specs.Prelude.{◌≡◌, ◌⊎◌, ℕ, ◌<◌, List, Some, slice_get, length}
use Rattle.prin_term.specs.declared.term.Anchor.{Anchor}
use Rattle.prin_term.specs.Principal.{Principal, Key}
use Rattle.taos_calculus.specs.declared.line.Node.{Node}
use Rattle.taos_calculus.specs.Rules.{Claim}
use Rattle.taos_calculus.specs.Tables.{named}
use Rattle.goal_search.specs.Goals.{Goal, ForWhom, WhoSays, IsAnswer}

-- the number is that of the principal
abbrev pub IsNamed : List Node → ℕ → Principal → Type 0
IsNamed nodes i p = (i < length nodes) × (named nodes i ≡ p)

-- the goal over principals, where p gives the principal of each number
abbrev pub goal_by : (ℕ → Principal) → Goal ℕ → Goal Principal
goal_by p (ForWhom a) = ForWhom (p a)
goal_by p (WhoSays l r) = WhoSays (p l) (p r)

-- the goal's numbers are below n
abbrev pub IsGoalBelow : ℕ → Goal ℕ → Type 0
IsGoalBelow n (ForWhom a) = a < n
IsGoalBelow n (WhoSays l r) = (l < n) × (r < n)

-- the number's principal answers the goal
abbrev pub IsAnswerAt : List Node → List Anchor → List Claim → Goal ℕ → ℕ → Type 0
IsAnswerAt nodes anchors claims goal i =
    IsAnswer anchors claims (goal_by (named nodes) goal) (named nodes i)

-- a row has answers of the goal alone
abbrev pub IsSoundAt : List Node → List Anchor → List Claim → Goal ℕ → (ℕ → Type 0) → Type 0
IsSoundAt nodes anchors claims goal In =
    (i : ℕ) → i < length nodes → In i → IsAnswerAt nodes anchors claims goal i

-- row x has what answers the goal at once: the number itself, or that of the speaker of each
-- certificate that makes the statement
abbrev pub BeginsAt : {X : Type 0} →
    List Node → List Claim → (X → ℕ → Type 0) → Goal ℕ → X → Type 0
BeginsAt nodes claims Has (ForWhom a) x = Has x a
BeginsAt nodes claims Has (WhoSays l r) x =
    (i : ℕ) (claim : Claim) → slice_get claims i ≡ Some claim →
    claim.left ≡ named nodes l → claim.right ≡ named nodes r →
    (w : ℕ) × IsNamed nodes w claim.speaker × Has x w

-- some finished row begins with the goal and lacks the number i, so i does not answer it
pub record RefusesAt {X : Type 0} (nodes : List Node) (claims : List Claim)
    (Finished : X → Type 0) (Has : X → ℕ → Type 0) (goal : Goal ℕ) (i : ℕ) : Type 0 where
  pub row : X
  pub finished : Finished row
  pub begins : BeginsAt nodes claims Has goal row
  pub lacks : Has row i → ⊥

-- the statement is said neither by its right side nor, where it is a delegation, by the one who
-- delegates
pub record IsUnheardAt {X : Type 0} (nodes : List Node) (claims : List Claim)
    (Finished : X → Type 0) (Has : X → ℕ → Type 0) (l r : ℕ) : Type 0 where
  pub by_right : RefusesAt nodes claims Finished Has (WhoSays l r) r
  pub by_delegator : (a b : ℕ) →
      slice_get nodes l ≡ Some (Node.Quote b a) → slice_get nodes r ≡ Some (Node.For b a) →
      RefusesAt nodes claims Finished Has (WhoSays l r) a

-- of a certificate whose left side has the number l and is in row x: its right side has a number
-- too, which is there, or the certificate is not heard
pub record IsHandedAt {X : Type 0} (nodes : List Node) (claims : List Claim)
    (Finished : X → Type 0) (Has : X → ℕ → Type 0) (x : X) (claim : Claim) (l : ℕ) :
    Type 0 where
  pub right : ℕ
  pub right_is : IsNamed nodes right claim.right
  pub handed : Has x right ⊎ IsUnheardAt nodes claims Finished Has l right

-- Row x has what a rule gives from its own members; and what it lacks of what the other rules might
-- give from them, finished rows refuse.
pub record IsFinishedAt {X : Type 0} (nodes : List Node)
    (anchors : List Anchor) (claims : List Claim)
    (Finished : X → Type 0) (Has : X → ℕ → Type 0) (x : X) : Type 0 where
  pub left : (a b c : ℕ) → slice_get nodes c ≡ Some (Node.And a b) → Has x c → Has x a
  pub right : (a b c : ℕ) → slice_get nodes c ≡ Some (Node.And a b) → Has x c → Has x b
  pub both : (a b c : ℕ) → slice_get nodes c ≡ Some (Node.And a b) →
      Has x a → Has x b → Has x c
  pub role : (a r c : ℕ) → slice_get nodes c ≡ Some (Node.AsRole a r) → Has x a → Has x c
  pub anchored : (i c d : ℕ) (anchor : Anchor) → slice_get anchors i ≡ Some anchor →
      slice_get nodes c ≡ Some (Node.Key anchor.key) →
      slice_get nodes d ≡ Some (Node.Name anchor.name) → Has x c → Has x d
  -- a node of the form is there, or one of its parts is refused to the member's
  pub quoting : (a b c d i j : ℕ) →
      slice_get nodes i ≡ Some (Node.Quote a b) → slice_get nodes j ≡ Some (Node.Quote c d) →
      Has x i →
      Has x j ⊎ RefusesAt nodes claims Finished Has (ForWhom a) c ⊎
      RefusesAt nodes claims Finished Has (ForWhom b) d
  pub for_both : (a b c d i j : ℕ) →
      slice_get nodes i ≡ Some (Node.For a b) → slice_get nodes j ≡ Some (Node.For c d) →
      Has x i →
      Has x j ⊎ RefusesAt nodes claims Finished Has (ForWhom a) c ⊎
      RefusesAt nodes claims Finished Has (ForWhom b) d
  pub role_under : (a c r i j : ℕ) →
      slice_get nodes i ≡ Some (Node.AsRole a r) → slice_get nodes j ≡ Some (Node.AsRole c r) →
      Has x i → Has x j ⊎ RefusesAt nodes claims Finished Has (ForWhom a) c
  pub handed : (i l : ℕ) (claim : Claim) → slice_get claims i ≡ Some claim →
      IsNamed nodes l claim.left → Has x l → IsHandedAt nodes claims Finished Has x claim l

-- the left side of each certificate has a number, or is a key; its other terms need none
abbrev pub HaveLeftsNumbers : List Node → List Claim → Type 0
HaveLeftsNumbers nodes claims =
    (i : ℕ) (claim : Claim) → slice_get claims i ≡ Some claim →
    ((l : ℕ) × IsNamed nodes l claim.left) ⊎ ((k : ℕ) × (claim.left ≡ Key k))
