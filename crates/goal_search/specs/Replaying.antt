-- Telling the cells of a search in the order in which they were filled.
use Rattle.std.specs.Prelude.{◌≡◌, ◌≢◌, ℕ, ◌-◌, ◌<◌, ◌≤◌, List, slice_index, length, map}
use Rattle.taos_calculus.specs.Question.{Question}
use Rattle.taos_calculus.specs.Tables.{named}
use Rattle.term_pool.specs.Claims.{ArePlacesApart, chosen_by}
use Rattle.goal_search.specs.declared.cells.Cells.{Cells}
use Rattle.goal_search.specs.Cells.{stamp_of}
use Rattle.goal_search.specs.Searching.{Core}

-- of the places before n, that of each cell which was filled up to this stamp stands at the stamp,
-- from 1 on
pub record IsOrder (t : Cells) (last : ℕ) (order : List ℕ) (n : ℕ) : Type 0 where
  pub long : length order ≡ last
  pub within : (k : ℕ) → k < last → slice_index order k < length t.cells.items
  pub placed : (place : ℕ) → place < n → slice_index t.cells.items place ≢ 0 →
      stamp_of (slice_index t.cells.items place) ≤ last →
      slice_index order (stamp_of (slice_index t.cells.items place) - 1) ≡ place

-- the question is about the search's anchors and certificates
pub record IsQuestionOf (s : Core) (q : Question) : Type 0 where
  pub anchors_are : q.anchors ≡ s.anchors
  pub chosen_is : q.chosen ≡ map (chosen_by (named s.nodes)) s.cited
  -- no place comes twice among the chosen
  pub apart : ArePlacesApart q.chosen
