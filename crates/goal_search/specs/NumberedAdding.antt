-- What may be added to a row, over the numbers of a table of nodes.
use Rattle.std.specs.Prelude.{◌≡◌, ◌⊎◌, ℕ, List, Some, slice_get}
use Rattle.prin_term.specs.declared.term.Anchor.{Anchor}
use Rattle.taos_calculus.specs.declared.line.Node.{Node}
use Rattle.taos_calculus.specs.Rules.{Claim}
use Rattle.taos_calculus.specs.Tables.{named}
use Rattle.goal_search.specs.Goals.{Goal, ForWhom, WhoSays}

-- c is a, or is in a's row
abbrev pub IsPassedTo : (Goal ℕ → ℕ → Type 0) → ℕ → ℕ → Type 0
IsPassedTo Has a c = (a ≡ c) ⊎ Has (ForWhom a) c

-- The number may be added to the goal's row, by what is in the rows: one case for each rule, or for
-- two that do the same to a row.
pub data AddsAt (nodes : List Node) (anchors : List Anchor) (claims : List Claim)
    (Has : Goal ℕ → ℕ → Type 0) (goal : Goal ℕ) : ℕ → Type 0 where
  -- Same: a principal to its own row
  itself : {a : ℕ} → goal ≡ ForWhom a → AddsAt nodes anchors claims Has goal a
  -- Said: a speaker to the row of the statement
  speaker : {claim : Claim} {w l r : ℕ} (i : ℕ) → slice_get claims i ≡ Some claim →
      named nodes w ≡ claim.speaker → named nodes l ≡ claim.left → named nodes r ≡ claim.right →
      goal ≡ WhoSays l r → AddsAt nodes anchors claims Has goal w
  left : {a b c : ℕ} → slice_get nodes c ≡ Some (Node.And a b) →
      Has goal c → AddsAt nodes anchors claims Has goal a
  right : {a b c : ℕ} → slice_get nodes c ≡ Some (Node.And a b) →
      Has goal c → AddsAt nodes anchors claims Has goal b
  -- Both in the row of a principal, Join in that of a statement
  both : {a b c : ℕ} → slice_get nodes c ≡ Some (Node.And a b) →
      Has goal a → Has goal b → AddsAt nodes anchors claims Has goal c
  role : {a r c : ℕ} → slice_get nodes c ≡ Some (Node.AsRole a r) →
      Has goal a → AddsAt nodes anchors claims Has goal c
  anchored : {anchor : Anchor} {c d : ℕ} (i : ℕ) → slice_get anchors i ≡ Some anchor →
      slice_get nodes c ≡ Some (Node.Key anchor.key) →
      slice_get nodes d ≡ Some (Node.Name anchor.name) →
      Has goal c → AddsAt nodes anchors claims Has goal d
  quoting : {a b c d i j : ℕ} →
      slice_get nodes i ≡ Some (Node.Quote a b) → slice_get nodes j ≡ Some (Node.Quote c d) →
      Has goal i → IsPassedTo Has a c → IsPassedTo Has b d →
      AddsAt nodes anchors claims Has goal j
  for_both : {a b c d i j : ℕ} →
      slice_get nodes i ≡ Some (Node.For a b) → slice_get nodes j ≡ Some (Node.For c d) →
      Has goal i → IsPassedTo Has a c → IsPassedTo Has b d →
      AddsAt nodes anchors claims Has goal j
  role_under : {a c r i j : ℕ} →
      slice_get nodes i ≡ Some (Node.AsRole a r) → slice_get nodes j ≡ Some (Node.AsRole c r) →
      Has goal i → IsPassedTo Has a c → AddsAt nodes anchors claims Has goal j
  hand_off : {l t : ℕ} →
      Has goal l → Has (WhoSays l t) t → AddsAt nodes anchors claims Has goal t
  delegate : {a b i j : ℕ} →
      slice_get nodes i ≡ Some (Node.Quote b a) → slice_get nodes j ≡ Some (Node.For b a) →
      Has goal i → Has (WhoSays i j) a → AddsAt nodes anchors claims Has goal j
  -- Chain, and Lift: from the row of a member
  onward : {u v : ℕ} →
      Has goal u → Has (ForWhom u) v → AddsAt nodes anchors claims Has goal v
