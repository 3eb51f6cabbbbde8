-- A table of rows whose cells tell in which order they were filled, and why.
use Rattle.std.specs.Prelude.{◌≡◌, ◌≢◌, ℕ, ◌+◌, ◌*◌, ◌/◌, ◌%◌, ◌<◌, ◌≤◌}
use Rattle.std.specs.Prelude.{slice_index, length, sum_by}
use Rattle.taos_calculus.specs.declared.proof.TheConstants.{MAX_LINES}
use Rattle.term_pool.specs.Finding.{vacancy}
use Rattle.goal_search.specs.declared.cells.Cells.{Cells}
use Rattle.goal_search.specs.declared.cells.TheConstants.{REASONS}

-- what the cell of this row and this column holds; 0 where it is empty
abbrev pub held_at : Cells → ℕ → ℕ → ℕ
held_at t row column = slice_index t.cells.items (row * t.width + column)

-- which number the cell was filled as, from 1 on
abbrev pub stamp_of : ℕ → ℕ
stamp_of held = held / REASONS

-- the reason for which it was filled
abbrev pub reason_of : ℕ → ℕ
reason_of held = held % REASONS

-- the table has this row and this column
abbrev pub IsPlace : Cells → ℕ → ℕ → Type 0
IsPlace t row column = (row < t.rows) × (column < t.width)

-- the cell of this row and this column is filled
abbrev pub IsIn : Cells → ℕ → ℕ → Type 0
IsIn t row column = IsPlace t row column × (held_at t row column ≢ 0)

-- it is filled, and was before the cell of this stamp
abbrev pub IsInBefore : Cells → ℕ → ℕ → ℕ → Type 0
IsInBefore t stamp row column = IsIn t row column × (stamp_of (held_at t row column) < stamp)

-- how many cells are empty
abbrev pub room_in : Cells → ℕ
room_in t = sum_by vacancy t.cells.items

-- there is a cell for each row and column, and each one that is filled has a stamp of its own
pub record AreCells (t : Cells) : Type 0 where
  pub sized : length t.cells.items ≡ t.width * t.rows
  pub few : length t.cells.items ≤ MAX_LINES
  -- as many cells are filled as stamps were given
  pub counted : t.count + room_in t ≡ length t.cells.items
  pub stamped : (place : ℕ) → slice_index t.cells.items place ≢ 0 →
      (0 < stamp_of (slice_index t.cells.items place)) ×
      (stamp_of (slice_index t.cells.items place) ≤ t.count)
  pub apart : (i j : ℕ) → slice_index t.cells.items i ≢ 0 → slice_index t.cells.items j ≢ 0 →
      stamp_of (slice_index t.cells.items i) ≡ stamp_of (slice_index t.cells.items j) → i ≡ j

-- the cell of this row and this column is filled besides, for this reason, after all others
pub record Fills (old new : Cells) (row column reason : ℕ) : Type 0 where
  pub cells : AreCells new
  pub width : new.width ≡ old.width
  pub rows : new.rows ≡ old.rows
  pub stamp : stamp_of (held_at new row column) ≡ old.count + 1
  pub reason_is : reason_of (held_at new row column) ≡ reason
  pub filled : held_at new row column ≢ 0
  -- each other cell holds what it held
  pub others : (place : ℕ) → place ≢ row * old.width + column →
      slice_index new.cells.items place ≡ slice_index old.cells.items place
  pub less : room_in new + 1 ≡ room_in old
