-- What may be added to a row.
use Rattle.std.specs.Prelude.{◌≡◌, ℕ, List, Some, slice_get}
use Rattle.prin_term.specs.declared.term.Anchor.{Anchor}
use Rattle.prin_term.specs.Principal.{Principal, Key, Name, And, Quoting, InRole, For}
use Rattle.taos_calculus.specs.Rules.{Claim}
use Rattle.goal_search.specs.Goals.{Goal, ForWhom, WhoSays}

-- The principal may be added to the goal's row, by what is in the rows: one case for each rule, or
-- for two that do the same to a row.
pub data Adds (anchors : List Anchor) (claims : List Claim)
    (Has : Goal Principal → Principal → Type 0) (goal : Goal Principal) :
    Principal → Type 0 where
  -- Same: a principal to its own row
  itself : {a : Principal} → goal ≡ ForWhom a → Adds anchors claims Has goal a
  -- Said: a speaker to the row of the statement
  speaker : {claim : Claim} (i : ℕ) → slice_get claims i ≡ Some claim →
      goal ≡ WhoSays claim.left claim.right → Adds anchors claims Has goal claim.speaker
  left : {a b : Principal} → Has goal (And a b) → Adds anchors claims Has goal a
  right : {a b : Principal} → Has goal (And a b) → Adds anchors claims Has goal b
  -- Both in the row of a principal, Join in that of a statement
  both : {a b : Principal} → Has goal a → Has goal b → Adds anchors claims Has goal (And a b)
  role : {a : Principal} {r : ℕ} → Has goal a → Adds anchors claims Has goal (InRole a r)
  anchored : {anchor : Anchor} (i : ℕ) → slice_get anchors i ≡ Some anchor →
      Has goal (Key anchor.key) → Adds anchors claims Has goal (Name anchor.name)
  quoting : {a b c d : Principal} →
      Has goal (Quoting a b) → Has (ForWhom a) c → Has (ForWhom b) d →
      Adds anchors claims Has goal (Quoting c d)
  for_both : {a b c d : Principal} →
      Has goal (For a b) → Has (ForWhom a) c → Has (ForWhom b) d →
      Adds anchors claims Has goal (For c d)
  role_under : {a c : Principal} {r : ℕ} →
      Has goal (InRole a r) → Has (ForWhom a) c → Adds anchors claims Has goal (InRole c r)
  hand_off : {l t : Principal} →
      Has goal l → Has (WhoSays l t) t → Adds anchors claims Has goal t
  delegate : {a b : Principal} →
      Has goal (Quoting b a) → Has (WhoSays (Quoting b a) (For b a)) a →
      Adds anchors claims Has goal (For b a)
  -- Chain, and Lift: from the row of a member
  onward : {u v : Principal} → Has goal u → Has (ForWhom u) v → Adds anchors claims Has goal v
