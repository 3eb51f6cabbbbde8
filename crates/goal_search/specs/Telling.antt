-- The lines of a derivation that tell what a search found.
use Rattle.std.specs.Prelude.{◌≡◌, ℕ, ◌+◌, ◌*◌, ◌<◌, ◌^◌, [], Some, slice_get, length, map}
use Rattle.prin_term.specs.declared.term.Anchor.{Anchor}
use Rattle.taos_calculus.specs.declared.line.Fact.{Fact}
use Rattle.taos_calculus.specs.declared.line.Node.{Node}
use Rattle.taos_calculus.specs.Numbered.{EachGives}
use Rattle.term_pool.specs.declared.cited.Cited.{Cited}
use Rattle.term_pool.specs.declared.found.Found.{Found}
use Rattle.term_pool.specs.Finding.{IsFound, facts_in, statement_of}
use Rattle.goal_search.specs.Cells.{held_at, stamp_of}
use Rattle.goal_search.specs.Reasons.{IsPassed, IsReason, IsSaid}
use Rattle.goal_search.specs.Searching.{Core, Has, about, claims_in}

-- the lines are a derivation over the search's table, and the index finds them
pub record IsTelling (s : Core) (f : Found) : Type 0 where
  pub found : IsFound f
  pub width_is : f.width ≡ length s.nodes
  pub stated : f.statements.items ≡ map statement_of s.cited
  pub anchors_fit : length s.anchors < 2 ^ 16
  pub sound : EachGives s.nodes s.anchors (claims_in (about s)) [] f.lines.items

-- some line has the fact
abbrev pub IsTold : Found → Fact → Type 0
IsTold f fact = (k : ℕ) × (slice_get (facts_in f) k ≡ Some fact)

-- the lines tell what they told, and maybe more
pub record TellsMore (s : Core) (f g : Found) : Type 0 where
  pub telling : IsTelling s g
  pub kept : (fact : Fact) → IsTold f fact → IsTold g fact

-- what it means that a number is in a row
pub data IsFactOf (s : Core) (row number : ℕ) (fact : Fact) : Type 0 where
  of_number : row < length s.nodes → fact ≡ Fact.Speaks row number →
      IsFactOf s row number fact
  of_statement : {c : Cited} (i : ℕ) → slice_get s.cited i ≡ Some c →
      row ≡ length s.nodes + i → fact ≡ Fact.Says number c.left c.right →
      IsFactOf s row number fact

-- the lines tell that the row has the number
abbrev pub TellsOf : Core → Found → ℕ → ℕ → Type 0
TellsOf s f row number = (fact : Fact) → IsFactOf s row number fact → IsTold f fact

-- where the lines f tell what the cell at this place rests on, for this reason, the lines g tell the cell
abbrev pub TellsCell : Core → (f g : Found) → (place reason : ℕ) → Type 0
TellsCell s f g place reason =
    (row number : ℕ) → Has s row number → place ≡ row * length s.nodes + number →
    IsReason (about s) (TellsOf s f) row number reason → TellsOf s g row number

-- a fact that may stand in the lines: its numbers are of the table, and what is said is stated
pub data IsFactIn (s : Core) (fact : Fact) : Type 0 where
  speaking : {left right : ℕ} → left < length s.nodes → right < length s.nodes →
      fact ≡ Fact.Speaks left right → IsFactIn s fact
  saying : {who : ℕ} {c : Cited} (i : ℕ) → who < length s.nodes →
      slice_get s.cited i ≡ Some c → fact ≡ Fact.Says who c.left c.right → IsFactIn s fact

-- the lines tell what was filled before this stamp
abbrev pub TellsBefore : Core → ℕ → Found → Type 0
TellsBefore s stamp f =
    (row number : ℕ) (fact : Fact) → Has s row number →
    stamp_of (held_at s.cells row number) < stamp → IsFactOf s row number fact → IsTold f fact

-- c is a, or the lines tell that it is in the row of a
abbrev pub TellsPassed : Core → Found → ℕ → ℕ → Type 0
TellsPassed s f a c = IsPassed (TellsOf s f) a c

-- the lines tell that t says the statement of certificate i, or that its speaker speaks for t
abbrev pub TellsSaid : Core → Found → ℕ → Cited → ℕ → Type 0
TellsSaid s f i c t = IsSaid (about s) (TellsOf s f) i c t

-- where the lines f tell who says what the certificate i states of these two, the lines g tell that
-- the one speaks for the other
pub record TellsHeard (s : Core) (f g : Found) (from to i : ℕ) : Type 0 where
  pub handed : (c : Cited) → slice_get s.cited i ≡ Some c → from ≡ c.left → to ≡ c.right →
      TellsSaid s f i c to → IsTold g (Fact.Speaks from to)
  pub delegated : (c : Cited) (a b : ℕ) → slice_get s.cited i ≡ Some c →
      from ≡ c.left → to ≡ c.right → slice_get s.nodes from ≡ Some (Node.Quote b a) →
      slice_get s.nodes to ≡ Some (Node.For b a) →
      TellsSaid s f i c a → IsTold g (Fact.Speaks from to)

-- where the nodes are an anchor's key and its name, the lines tell that the one speaks for the
-- other
abbrev pub TellsAnchored : Core → Found → (from to : ℕ) → Type 0
TellsAnchored s g from to =
    (i : ℕ) (anchor : Anchor) → slice_get s.anchors i ≡ Some anchor →
    slice_get s.nodes from ≡ Some (Node.Key anchor.key) →
    slice_get s.nodes to ≡ Some (Node.Name anchor.name) → IsTold g (Fact.Speaks from to)

-- where both nodes quote, and the lines f tell that the parts of the one speak for those of the
-- other, the lines g tell that the one speaks for the other
abbrev pub TellsQuoted : Core → (f g : Found) → (from to : ℕ) → Type 0
TellsQuoted s f g from to =
    (a b c d : ℕ) → slice_get s.nodes from ≡ Some (Node.Quote a b) →
    slice_get s.nodes to ≡ Some (Node.Quote c d) →
    TellsPassed s f a c → TellsPassed s f b d → IsTold g (Fact.Speaks from to)

-- the same where both act for another
abbrev pub TellsActing : Core → (f g : Found) → (from to : ℕ) → Type 0
TellsActing s f g from to =
    (a b c d : ℕ) → slice_get s.nodes from ≡ Some (Node.For a b) →
    slice_get s.nodes to ≡ Some (Node.For c d) →
    TellsPassed s f a c → TellsPassed s f b d → IsTold g (Fact.Speaks from to)

-- the same where both are in one role
abbrev pub TellsUnder : Core → (f g : Found) → (from to : ℕ) → Type 0
TellsUnder s f g from to =
    (a c r : ℕ) → slice_get s.nodes from ≡ Some (Node.AsRole a r) →
    slice_get s.nodes to ≡ Some (Node.AsRole c r) →
    TellsPassed s f a c → IsTold g (Fact.Speaks from to)

-- where the lines f tell what the parts of two nodes speak for, the lines g tell that the one
-- speaks for the other, by their forms or by an anchor
pub record TellsFormed (s : Core) (f g : Found) (from to : ℕ) : Type 0 where
  pub left : (b : ℕ) → slice_get s.nodes from ≡ Some (Node.And to b) →
      IsTold g (Fact.Speaks from to)
  pub right : (a : ℕ) → slice_get s.nodes from ≡ Some (Node.And a to) →
      IsTold g (Fact.Speaks from to)
  pub role : (r : ℕ) → slice_get s.nodes to ≡ Some (Node.AsRole from r) →
      IsTold g (Fact.Speaks from to)
  pub anchored : TellsAnchored s g from to
  pub quoting : TellsQuoted s f g from to
  pub for_both : TellsActing s f g from to
  pub role_under : TellsUnder s f g from to
