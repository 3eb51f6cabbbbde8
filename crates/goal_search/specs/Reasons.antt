-- Why a number may be put into a row: what is in the rows gives it by a rule.
use Rattle.std.specs.Prelude.{◌≡◌, ◌⊎◌, ℕ, ◌+◌, ◌<◌, List, Some, slice_get, length}
use Rattle.prin_term.specs.declared.term.Anchor.{Anchor}
use Rattle.taos_calculus.specs.declared.line.Node.{Node}
use Rattle.term_pool.specs.declared.cited.Cited.{Cited}
use Rattle.goal_search.specs.declared.search.TheConstants.{AT_ONCE, OF_BOTH}

-- what a search is about: a table of nodes, anchors, and the chosen certificates by its numbers.
-- The row of a number below the count of nodes is of what it speaks for; the row of that count and
-- i is of who says the statement of certificate i.
pub record About : Type 0 where
  pub nodes : List Node
  pub anchors : List Anchor
  pub cited : List Cited

-- c is a, or in the row of a
abbrev pub IsPassed : (ℕ → ℕ → Type 0) → ℕ → ℕ → Type 0
IsPassed Has a c = (a ≡ c) ⊎ Has a c

-- t says the statement of certificate i: it is in the row of that, or the speaker speaks for it
abbrev pub IsSaid : About → (ℕ → ℕ → Type 0) → ℕ → Cited → ℕ → Type 0
IsSaid s Has i c t = Has (length s.nodes + i) t ⊎ Has c.speaker t

-- the two certificates make one statement
abbrev pub IsAlike : Cited → Cited → Type 0
IsAlike c d = (c.left ≡ d.left) × (c.right ≡ d.right)

-- the one number speaks for the other at once, but for what the rows say of other numbers
pub data IsEdge (s : About) (Has : ℕ → ℕ → Type 0) (from to : ℕ) : Type 0 where
  left : {b : ℕ} → slice_get s.nodes from ≡ Some (Node.And to b) → IsEdge s Has from to
  right : {a : ℕ} → slice_get s.nodes from ≡ Some (Node.And a to) → IsEdge s Has from to
  role : {r : ℕ} → slice_get s.nodes to ≡ Some (Node.AsRole from r) → IsEdge s Has from to
  anchored : {anchor : Anchor} (i : ℕ) → slice_get s.anchors i ≡ Some anchor →
      slice_get s.nodes from ≡ Some (Node.Key anchor.key) →
      slice_get s.nodes to ≡ Some (Node.Name anchor.name) → IsEdge s Has from to
  quoting : {a b c d : ℕ} → slice_get s.nodes from ≡ Some (Node.Quote a b) →
      slice_get s.nodes to ≡ Some (Node.Quote c d) →
      IsPassed Has a c → IsPassed Has b d → IsEdge s Has from to
  for_both : {a b c d : ℕ} → slice_get s.nodes from ≡ Some (Node.For a b) →
      slice_get s.nodes to ≡ Some (Node.For c d) →
      IsPassed Has a c → IsPassed Has b d → IsEdge s Has from to
  role_under : {a c r : ℕ} → slice_get s.nodes from ≡ Some (Node.AsRole a r) →
      slice_get s.nodes to ≡ Some (Node.AsRole c r) → IsPassed Has a c → IsEdge s Has from to
  hand_off : {c : Cited} (i : ℕ) → slice_get s.cited i ≡ Some c →
      from ≡ c.left → to ≡ c.right → IsSaid s Has i c to → IsEdge s Has from to
  delegate : {a b : ℕ} {c : Cited} (i : ℕ) → slice_get s.cited i ≡ Some c →
      from ≡ c.left → to ≡ c.right →
      slice_get s.nodes from ≡ Some (Node.Quote b a) →
      slice_get s.nodes to ≡ Some (Node.For b a) →
      IsSaid s Has i c a → IsEdge s Has from to

-- the number may be put into the row, for this reason: a member from which an edge leads to it, or
-- one of two that are no numbers of the table
pub data IsReason (s : About) (Has : ℕ → ℕ → Type 0) (row number reason : ℕ) : Type 0 where
  itself : row < length s.nodes → number ≡ row → reason ≡ AT_ONCE →
      IsReason s Has row number reason
  speaker : {c d : Cited} (i k : ℕ) → slice_get s.cited i ≡ Some c →
      slice_get s.cited k ≡ Some d → IsAlike c d →
      row ≡ length s.nodes + k → number ≡ c.speaker → reason ≡ AT_ONCE →
      IsReason s Has row number reason
  both : {a b : ℕ} → slice_get s.nodes number ≡ Some (Node.And a b) →
      Has row a → Has row b → reason ≡ OF_BOTH → IsReason s Has row number reason
  onward : reason < length s.nodes → Has row reason → IsEdge s Has reason number →
      IsReason s Has row number reason
