-- The plain demand: which goals are asked for, so that each asked row can be closed.
-- `Has goal` tells the row of a goal.
use Rattle.std.specs.Prelude.{◌≡◌, ℕ, List, Some, slice_get}
use Rattle.prin_term.specs.declared.term.Anchor.{Anchor}
use Rattle.prin_term.specs.Principal.{Principal, Key, Name, And, Quoting, InRole, For}
use Rattle.taos_calculus.specs.Rules.{Claim}
use Rattle.goal_search.specs.Goals.{Goal, ForWhom, WhoSays, Begins}

-- The goals that a row asks for by what it has. Same, Chain, Left, Right, Both, Role, Anchor, Lift,
-- Join and Said ask for none: what a row reaches needs no row.
pub data Demands (In : Principal → Type 0) (claims : List Claim) : Goal Principal → Type 0 where
  -- Quote: for whom each part of a member speaks
  who_quotes : {a b : Principal} → In (Quoting a b) → Demands In claims (ForWhom a)
  is_quoted : {a b : Principal} → In (Quoting a b) → Demands In claims (ForWhom b)
  -- For: the same
  who_acts : {a b : Principal} → In (For a b) → Demands In claims (ForWhom a)
  is_acted_for : {a b : Principal} → In (For a b) → Demands In claims (ForWhom b)
  -- RoleUnder: for whom the one in the role speaks
  has_role : {a : Principal} {r : ℕ} → In (InRole a r) → Demands In claims (ForWhom a)
  -- HandOff and Delegate: who says what a certificate states of a member
  is_stated : {claim : Claim} (i : ℕ) → slice_get claims i ≡ Some claim → In claim.left →
      Demands In claims (WhoSays claim.left claim.right)

-- the goal's row has what the rules give from it and from the rows that it asks for, as far as U
-- goes
pub record IsClosed (U : Principal → Type 0) (anchors : List Anchor) (claims : List Claim)
    (Has : Goal Principal → Principal → Type 0) (goal : Goal Principal) : Type 0 where
  -- Same, or Said
  pub begins : Begins Has claims goal goal
  pub left : (a b : Principal) → Has goal (And a b) → Has goal a
  pub right : (a b : Principal) → Has goal (And a b) → Has goal b
  -- Both, or Join
  pub both : (a b : Principal) → Has goal a → Has goal b → U (And a b) → Has goal (And a b)
  pub role : (a : Principal) (r : ℕ) → Has goal a → U (InRole a r) → Has goal (InRole a r)
  pub anchored : (i : ℕ) (anchor : Anchor) → slice_get anchors i ≡ Some anchor →
      Has goal (Key anchor.key) → U (Name anchor.name) → Has goal (Name anchor.name)
  pub quoting : (a b c d : Principal) → Has goal (Quoting a b) → U (Quoting c d) →
      Has (ForWhom a) c → Has (ForWhom b) d → Has goal (Quoting c d)
  pub for_both : (a b c d : Principal) → Has goal (For a b) → U (For c d) →
      Has (ForWhom a) c → Has (ForWhom b) d → Has goal (For c d)
  pub role_under : (a c : Principal) (r : ℕ) → Has goal (InRole a r) → U (InRole c r) →
      Has (ForWhom a) c → Has goal (InRole c r)
  pub hand_off : (i : ℕ) (claim : Claim) → slice_get claims i ≡ Some claim →
      Has goal claim.left →
      Has (WhoSays claim.left claim.right) claim.right → Has goal claim.right
  pub delegate : (i : ℕ) (claim : Claim) (a b : Principal) → slice_get claims i ≡ Some claim →
      claim.left ≡ Quoting b a → claim.right ≡ For b a → Has goal claim.left →
      Has (WhoSays claim.left claim.right) a → Has goal claim.right
