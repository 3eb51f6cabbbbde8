-- The laws of rows in the order of their numbers.
use Rattle.std.specs.Prelude.{◌≡◌, ◌≢◌, ℕ, List, length, slice_index_or}
use Rattle.std.specs.Prelude.{Result, IfOk, IfErr, Some, None}
use Rattle.std.specs.List.{insert}
use Rattle.std.specs.List.Sorted.{IsSearchInRange, IsBinarySearchResult, IsNonDecreasingBy}
use Rattle.std.specs.Ordering.{nat_cmp}
use Rattle.byte_fields.specs.Rows.{value_of, IsAscending, IsAt, IsGapFor}

-- a binary search by number ends at the number, or at the gap for it
abbrev pub SearchesEnd : {A : Type 0} → (A → ℕ) → A → Type 0
SearchesEnd {A} number default =
    (rows : List A) (n : ℕ) (r : Result ℕ ℕ) → IsNonDecreasingBy number rows
    → IsSearchInRange r (length rows)
    → IsBinarySearchResult (λ row. nat_cmp (number row) n) rows r
    → IfOk r (IsAt number default rows n) × IfErr r (IsGapFor number default rows n)

-- a number that has a gap finds nothing, and one that stands at a place finds what is there
abbrev pub PlacesTell : {A V : Type 0} → (A → ℕ) → (A → V) → A → Type 0
PlacesTell {A} number value default =
    (rows : List A) (n i : ℕ)
    → (IsGapFor number default rows n i → value_of number value rows n ≡ None)
    × (IsAscending number default rows → IsAt number default rows n i
    → value_of number value rows n ≡ Some (value (slice_index_or rows i default)))

-- a row that is put into the gap for its number keeps the order, is found by its number, and changes
-- what no other number finds
abbrev pub GapsTake : {A V : Type 0} → (A → ℕ) → (A → V) → A → Type 0
GapsTake {A} number value default =
    (rows : List A) (row : A) (i : ℕ) → IsGapFor number default rows (number row) i
    → (IsAscending number default rows → IsAscending number default (insert rows i row))
    × (value_of number value (insert rows i row) (number row) ≡ Some (value row))
    × ((n : ℕ) → n ≢ number row
    → value_of number value (insert rows i row) n ≡ value_of number value rows n)
