-- What a search holds, and when it has found all that it was asked for.
use Rattle.std.specs.Prelude.{◌≡◌, ℕ, ◌+◌, ◌-◌, ◌<◌, ◌≤◌, List, Some}
use Rattle.std.specs.Prelude.{slice_get, length, map, All, Contains}
use Rattle.std.specs.List.{IsDistinct}
use Rattle.std.proofs.Math.Dec.{eqb}
use Rattle.prin_term.specs.declared.term.Anchor.{Anchor}
use Rattle.taos_calculus.specs.declared.decide.TheConstants.{MAX_ANCHORS, MAX_CERTS}
use Rattle.taos_calculus.specs.declared.line.Node.{Node}
use Rattle.taos_calculus.specs.declared.proof.TheConstants.{MAX_NODES}
use Rattle.taos_calculus.specs.Rules.{Claim}
use Rattle.taos_calculus.specs.Tables.{IsNodeTable, named}
use Rattle.term_pool.specs.Claims.{CitedIn, claim_by}
use Rattle.term_pool.specs.declared.cited.Cited.{Cited}
use Rattle.goal_search.specs.declared.search.Anchored.{Anchored}
use Rattle.goal_search.specs.declared.cells.Cells.{Cells}
use Rattle.goal_search.specs.declared.search.Search.{Search}
use Rattle.goal_search.specs.Cells.{AreCells, IsIn, IsInBefore, held_at, reason_of, room_in, stamp_of}
use Rattle.goal_search.specs.Goals.{Goal, ForWhom, WhoSays}
use Rattle.goal_search.specs.NumberedRows.{IsFinishedAt}
use Rattle.goal_search.specs.Reasons.{About, IsReason, IsAlike}

-- what a search holds, without its hints
pub record Core : Type 0 where
  pub nodes : List Node
  pub anchors : List Anchor
  -- the anchors by the numbers of their keys and names
  pub links : List Anchored
  pub cited : List Cited
  pub cells : Cells
  -- the rows that have to be finished
  pub wanted : List ℕ

-- what this search holds
abbrev pub core : Search → Core
core s = record {
  nodes = s.nodes.items;
  anchors = s.anchors.items;
  links = s.links.items;
  cited = s.cited.items;
  cells = s.cells;
  wanted = s.wanted.items;
}

-- what it is about
abbrev pub about : Core → About
about s = record { nodes = s.nodes; anchors = s.anchors; cited = s.cited }

-- what its certificates say
abbrev pub claims_in : About → List Claim
claims_in a = map (claim_by (named a.nodes)) a.cited

-- the row has the number
abbrev pub Has : Core → ℕ → ℕ → Type 0
Has s row number = IsIn s.cells row number

-- the row has it by a cell that was filled before this stamp
abbrev pub HadBefore : Core → ℕ → ℕ → ℕ → Type 0
HadBefore s stamp row number = IsInBefore s.cells stamp row number

-- the number is one of the table
abbrev pub IsNumber : Core → ℕ → Type 0
IsNumber s id = id < length s.nodes

-- it is a row: of a number, or of a certificate's statement
abbrev pub IsRow : Core → ℕ → Type 0
IsRow s row = row < length s.nodes + length s.cited

-- what the row is asked for
pub data IsGoalOf (a : About) (row : ℕ) (goal : Goal ℕ) : Type 0 where
  of_number : row < length a.nodes → goal ≡ ForWhom row → IsGoalOf a row goal
  of_statement : {c : Cited} (i : ℕ) → slice_get a.cited i ≡ Some c →
      row ≡ length a.nodes + i → goal ≡ WhoSays c.left c.right → IsGoalOf a row goal

-- the row of a number has it, the row of a statement has the speakers of the certificates that
-- make it
pub data IsBegun (a : About) (Has : ℕ → ℕ → Type 0) (row : ℕ) : Type 0 where
  from_itself : row < length a.nodes → Has row row → IsBegun a Has row
  from_speakers : {d : Cited} (k : ℕ) → slice_get a.cited k ≡ Some d →
      row ≡ length a.nodes + k →
      ((i : ℕ) (c : Cited) → slice_get a.cited i ≡ Some c → IsAlike c d → Has row c.speaker) →
      IsBegun a Has row

-- the pair is an anchor's key and its name, by the numbers of the table
pub record IsAnchored (nodes : List Node) (anchors : List Anchor) (link : Anchored) : Type 0 where
  pub place : ℕ
  pub anchor : Anchor
  pub stands : slice_get anchors place ≡ Some anchor
  pub key_is : slice_get nodes link.key ≡ Some (Node.Key anchor.key)
  pub name_is : slice_get nodes link.name ≡ Some (Node.Name anchor.name)

-- the pairs are those of the anchors whose key and name are in the table
pub record AreAnchored (nodes : List Node) (anchors : List Anchor)
    (links : List Anchored) : Type 0 where
  pub sound : (k : ℕ) (link : Anchored) → slice_get links k ≡ Some link →
      IsAnchored nodes anchors link
  pub all : (i c d : ℕ) (anchor : Anchor) → slice_get anchors i ≡ Some anchor →
      slice_get nodes c ≡ Some (Node.Key anchor.key) →
      slice_get nodes d ≡ Some (Node.Name anchor.name) →
      Contains links (record { key = c; name = d })

-- each number stands in its row for a reason that was there before
abbrev pub IsGrounded : Core → Type 0
IsGrounded s =
    (row number : ℕ) → Has s row number →
    IsReason (about s) (HadBefore s (stamp_of (held_at s.cells row number)))
    row number (reason_of (held_at s.cells row number))

-- its rows are those of its table, and each number stands there for a reason
pub record IsReady (s : Core) : Type 0 where
  pub cells : AreCells s.cells
  pub width_is : s.cells.width ≡ length s.nodes
  pub rows_are : s.cells.rows ≡ length s.nodes + length s.cited
  pub table : IsNodeTable s.nodes
  pub few_nodes : length s.nodes ≤ MAX_NODES
  pub few_cited : length s.cited ≤ MAX_CERTS
  pub cited_in : All (CitedIn (length s.nodes)) s.cited
  pub few_anchors : length s.anchors ≤ MAX_ANCHORS
  pub few_links : length s.links ≤ MAX_ANCHORS
  pub anchored : AreAnchored s.nodes s.anchors s.links
  pub grounded : IsGrounded s
  -- wanted rows are begun, each is wanted once
  pub wanted : All (λ x. IsRow s x × IsBegun (about s) (Has s) x) s.wanted
  pub wanted_once : IsDistinct eqb s.wanted

-- the table is the same, no row lost a number, and wanted rows stay so
pub record IsGrown (s t : Core) : Type 0 where
  pub ready : IsReady t
  pub about_is : about t ≡ about s
  pub links_are : t.links ≡ s.links
  -- in particular there are as many of each
  pub nodes_count : length t.nodes ≡ length s.nodes
  pub cited_count : length t.cited ≡ length s.cited
  pub links_count : length t.links ≡ length s.links
  pub kept : (row number : ℕ) → Has s row number → Has t row number
  pub still_wanted : (row : ℕ) → Contains s.wanted row → Contains t.wanted row
  pub room_left : room_in t.cells ≤ room_in s.cells

-- the same, and the same rows are wanted
pub record IsFilled (s t : Core) : Type 0 where
  pub grown : IsGrown s t
  pub wanted_are : t.wanted ≡ s.wanted

-- how much is left to do: cells to fill, and rows to want
abbrev pub left_to_do : Core → ℕ
left_to_do s = room_in s.cells + (s.cells.rows - length s.wanted)

-- the row is finished beside those that are wanted
abbrev pub IsFinishedIn : Core → ℕ → Type 0
IsFinishedIn s row =
    IsFinishedAt s.nodes s.anchors (claims_in (about s))
    (Contains s.wanted) (Has s) row

-- each wanted row is finished
abbrev pub IsSettled : Core → Type 0
IsSettled s = (row : ℕ) → Contains s.wanted row → IsFinishedIn s row

-- each wanted row is that of a number, and has the right side of the certificate where it has the
-- left one
abbrev pub HasFollowed : Core → Cited → Type 0
HasFollowed s it =
    All (λ row. IsNumber s row × (Has s row it.left → Has s row it.right)) s.wanted
