-- The rows by which objects are found: their numbers, ascending, each with its place.
use Rattle.std.specs.Prelude.{◌≡◌, ℕ, ◌<◌, List, length, Some, slice_get, All, Contains}
use Rattle.std.specs.List.{HoldsAt}
use Rattle.std.specs.List.Sorted.{IsNonDecreasingBy}
use Rattle.object_core.specs.declared.rows.Row.{Row}

-- the row of a number and its place
abbrev pub row : ℕ → ℕ → Row
row number place = record { number = number; place = place }

-- each of the numbers has a row with its place, and no other row is there
pub record AreRowsOf (numbers : List ℕ) (rows : List Row) : Type 0 where
  pub sound : All (λ (r : Row). slice_get numbers r.place ≡ Some r.number) rows
  pub complete : (place number : ℕ) → slice_get numbers place ≡ Some number →
      Contains rows (row number place)

-- the numbers of the rows never fall
abbrev pub AreAscending : List Row → Type 0
AreAscending rows = IsNonDecreasingBy (λ (r : Row). r.number) rows

-- a row of the number stands there
abbrev pub HasNumberAt : List Row → ℕ → ℕ → Type 0
HasNumberAt rows number at =
    (at < length rows) × HoldsAt (λ (r : Row). r.number ≡ number) rows at

-- no row is one of the number
abbrev pub LacksNumber : List Row → ℕ → Type 0
LacksNumber rows number = (place : ℕ) → Contains rows (row number place) → ⊥
