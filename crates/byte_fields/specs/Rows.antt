-- Rows that have numbers, in the order of these: what a number finds, and where a new row goes.
use Rattle.std.specs.Prelude.{◌≡◌, ℕ, ◌<◌, ◌≤◌, List, [], ◌∷◌, length, ◌==◌}
use Rattle.std.specs.Prelude.{if◌then◌else◌, slice_index_or, Option, Some, None}

-- what the first row of the number gives
abbrev pub value_of : {A V : Type 0} → (A → ℕ) → (A → V) → List A → ℕ → Option V
value_of number value [] n = None
value_of number value (x ∷ rest) n =
    if number x == n then Some (value x) else value_of number value rest n

module _ {A : Type 0} (number : A → ℕ) (default : A) where
  -- the number of the row at place i
  abbrev pub number_at : List A → ℕ → ℕ
  number_at rows i = let row = slice_index_or rows i default in number row

  -- the numbers rise, so no number comes twice
  abbrev pub IsAscending : List A → Type 0
  IsAscending rows =
      (i j : ℕ) → i < j → j < length rows → number_at rows i < number_at rows j

  -- the row at place i has the number
  pub record IsAt (rows : List A) (n i : ℕ) : Type 0 where
    pub in_range : i < length rows
    pub has_number : number_at rows i ≡ n

  -- the number would go at place i: smaller numbers before it, and greater ones from it on
  pub record IsGapFor (rows : List A) (n i : ℕ) : Type 0 where
    pub in_range : i ≤ length rows
    pub smaller_before : (j : ℕ) → j < i → number_at rows j < n
    pub greater_after : (j : ℕ) → i ≤ j → j < length rows → n < number_at rows j
