-- The table that finds a fact's line.
use Rattle.std.specs.Prelude.{◌≡◌, ◌≢◌, ℕ, suc, ◌+◌, ◌*◌, ◌<◌, ◌≤◌, ◌^◌, List, Some}
use Rattle.std.specs.Prelude.{slice_get, slice_index, length, sum_by, zero, vec_capacity}
use Rattle.taos_calculus.specs.declared.line.Fact.{Fact}
use Rattle.taos_calculus.specs.declared.line.Line.{Line}
use Rattle.term_pool.specs.declared.cited.Cited.{Cited}
use Rattle.term_pool.specs.declared.found.Pair.{Pair}
use Rattle.term_pool.specs.declared.found.Found.{Found}
use Rattle.taos_calculus.specs.Tables.{IsBelow}
use Rattle.taos_calculus.specs.Numbered.{facts_at}

-- the statement of these two numbers
abbrev pub pair : ℕ → ℕ → Pair
pair left right = record { left = left; right = right }

-- what a certificate says, by its numbers
abbrev pub statement_of : Cited → Pair
statement_of c = pair c.left c.right

-- the statement stands first at k
pub record IsFirstOf (statements : List Pair) (left right k : ℕ) : Type 0 where
  pub stands : slice_get statements k ≡ Some (pair left right)
  pub first : (m : ℕ) → m < k → slice_get statements m ≡ Some (pair left right) → ⊥

-- the fact's place in the table: a row is a number for what it speaks for, or a statement for who
-- says it
pub data IsCell (width : ℕ) (statements : List Pair) : Fact → ℕ → Type 0 where
  of_speaks : {l r c : ℕ} → l < width → r < width →
      c ≡ l * width + r → IsCell width statements (Fact.Speaks l r) c
  of_says : {w l r c : ℕ} (k : ℕ) → w < width →
      IsFirstOf statements l r k → c ≡ (width + k) * width + w →
      IsCell width statements (Fact.Says w l r) c

-- 1 at a cell that holds no number
abbrev pub vacancy : ℕ → ℕ
vacancy zero = 1
vacancy (suc n) = 0

-- the numbers tell the line of each fact, as the number and one more; 0 tells that there is none
pub record IsIndex (width : ℕ) (statements : List Pair)
    (numbers : List ℕ) (lines : List Line) : Type 0 where
  -- a cell for each two numbers, and one for each statement with each number
  pub sized : length numbers ≡ width * (width + length statements)
  pub fits : width * (width + length statements) < 2 ^ 32
  pub rows_fit : width + length statements < 2 ^ 32
  -- lines and vacant cells together are as many as the cells
  pub counted : length lines + sum_by vacancy numbers ≡ length numbers
  -- the cell of each fact tells its line
  pub celled : (k : ℕ) (fact : Fact) → slice_get (facts_at lines) k ≡ Some fact →
      (c : ℕ) × IsCell width statements fact c × (slice_index numbers c ≡ suc k)
  -- what a cell tells is the line of the fact of that cell
  pub told : (c k : ℕ) → slice_index numbers c ≡ suc k →
      (fact : Fact) × IsCell width statements fact c × (slice_get (facts_at lines) k ≡ Some fact)

-- the facts that were found, in order
abbrev pub facts_in : Found → List Fact
facts_in s = facts_at s.lines.items

-- the fact's place in the table of what was found
abbrev pub CellOf : Found → Fact → ℕ → Type 0
CellOf s fact c = IsCell s.width s.statements.items fact c

-- the fact's numbers are within the table's width
abbrev pub HasCell : Found → Fact → Type 0
HasCell s fact = IsBelow s.width fact

-- how many facts may still come
abbrev pub room : Found → ℕ
room s = sum_by vacancy s.numbers.items

-- the table tells for each fact the line that has it, or that none does
pub record IsFound (s : Found) : Type 0 where
  pub index : IsIndex s.width s.statements.items s.numbers.items s.lines.items
  -- there is memory for a line in each cell
  pub held : length s.numbers.items ≤ vec_capacity s.lines

-- the row knows each column that the other row knows
abbrev pub Covers : Found → ℕ → ℕ → Type 0
Covers s row through =
    (c : ℕ) → c < s.width → slice_index s.numbers.items (through * s.width + c) ≢ 0 →
    slice_index s.numbers.items (row * s.width + c) ≢ 0

-- a column that the row does not know and the other row knows
pub record IsGap (s : Found) (row through c : ℕ) : Type 0 where
  pub within : c < s.width
  pub through_it : slice_index s.numbers.items (through * s.width + c) ≢ 0
  pub not_yet : slice_index s.numbers.items (row * s.width + c) ≡ 0
