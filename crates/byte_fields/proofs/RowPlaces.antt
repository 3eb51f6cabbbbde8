-- What a search finds among ascending rows, and what a new row at that place does.
use Rattle.std.proofs.Common.{◌≡◌, ◌≢◌, ℕ, ◌+◌, ◌-◌, ◌<◌, ◌≤◌, List, length, get_or, Some, None, Result, Ok, Err, IfOk, IfErr, OnErr, IsOk, IsSome, ◌↔◌, sym, ap, subst, arith}
use Rattle.std.specs.List.{insert}
use Rattle.std.specs.List.Sorted.{IsSearchInRange, IsBinarySearchResult, IsNonDecreasingBy}
use Rattle.std.specs.Ordering.{nat_cmp, ordering_index}
use Rattle.std.proofs.lemmas.Cmp.{ranked}
use Rattle.std.proofs.lemmas.List.Sorted.{IsNonDecreasingBy-from_default}
use Rattle.std.proofs.lemmas.List.Edits.{length-insert, get_or-insert_below, get_or-insert_at, get_or-insert_above}
use Rattle.std.proofs.lemmas.Bool.Decides.{nat_tests}
use Rattle.byte_fields.specs.Rows.{value_of, number_at, IsAscending, IsAt, IsGapFor}
use Rattle.byte_fields.proofs.FindingRows.{value_of-absent, value_of-present, value_of-insert}

module _ {A : Type 0} (number : A → ℕ) (default : A) where
  -- numbers that rise never fall
  pub never_fall : (l : List A) → IsAscending number default l → IsNonDecreasingBy number l
  never_fall l ascending = IsNonDecreasingBy-from_default number l default (λ i j le in_range.
      grind (arith, ascending i j, λ (same : i ≡ j). ap (number_at number default l) same))

  module _ (l : List A) (never_falls : IsNonDecreasingBy number l) (n : ℕ) where
    -- the comparisons with n rise along the list, as a binary search asks
    comparisons_rise : IsNonDecreasingBy (λ row. ordering_index (nat_cmp (number row) n)) l
    comparisons_rise = λ i j d le in_range.
        let up : number (get_or l i d) ≤ number (get_or l j d) = never_falls i j d le in_range in
        grind (arith, nat_tests)

    -- a binary search by number ends at the number, or at the gap for it
    pub search_ends : (r : Result ℕ ℕ) → IsSearchInRange r (length l) → IsBinarySearchResult (λ row. nat_cmp (number row) n) l r → IfOk r (IsAt number default l n) × IfErr r (IsGapFor number default l n)
    search_ends (Ok at) in_range equal = (record { in_range = in_range; has_number = ranked _ n _ (sym (equal default)) }, tt)
    search_ends (Err at) in_range parted = (
      tt,
      record {
        in_range = in_range;
        smaller_before = λ j lt. ranked _ n _ (sym ((parted comparisons_rise).0 j default (omega arith) lt));
        greater_after = λ j le lt. ranked _ n _ (sym ((parted comparisons_rise).1 j default le lt));
      },
    )

  -- a row in the gap for its number keeps the order: each new number is an old one below the gap, its
  -- own at it, or an old one moved up by one
  pub ascending-insert : (l : List A) (row : A) (at : ℕ) → IsGapFor number default l (number row) at → IsAscending number default l → IsAscending number default (insert l at row)
  ascending-insert l row at gap ascending i j lt in_range =
      let longer = insert l at row in
      let number_in = number_at number default in
      let length_longer = length-insert l at row gap.in_range in
      let below : (i : ℕ) → i < at → number_in longer i ≡ number_in l i = λ i lt. ap number (get_or-insert_below l at row default i lt gap.in_range) in
      let here : (i : ℕ) → i ≡ at → number_in longer i ≡ number row = λ i is. rw is (ap number (get_or-insert_at l at row default gap.in_range)) in
      let above : (i : ℕ) → at < i → number_in longer i ≡ number_in l (i - 1) = λ i lt. subst (λ q. number_in longer q ≡ number_in l (i - 1)) {x = i - 1 + 1} (omega arith) (ap number (get_or-insert_above l at row default (i - 1) (omega arith) gap.in_range)) in
      grind (arith, below i, here i, above i, below j, here j, above j, ascending i j, ascending i (j - 1), ascending (i - 1) (j - 1), gap.smaller_before i, gap.greater_after (j - 1))

module _ {A V : Type 0} (number : A → ℕ) (value : A → V) (default : A) where
  -- in ascending rows, what a number finds stands at its place
  pub value_of-at : (l : List A) → IsAscending number default l → (n i : ℕ) → IsAt number default l n i → value_of number value l n ≡ Some (value (get_or l i default))
  value_of-at l ascending n i is_at =
      value_of-present number value default l n i is_at (λ j lt same. omega (arith, ascending j i lt is_at.in_range, is_at.has_number))

  -- a number that has a gap is not found
  pub value_of-in_gap : (l : List A) (n at : ℕ) → IsGapFor number default l n at → value_of number value l n ≡ None
  value_of-in_gap l n at gap = value_of-absent number value default l n (λ j lt same. grind (arith, gap.smaller_before j, gap.greater_after j))

  -- what a search for a number answers
  pub record Finds (l : List A) (n : ℕ) (r : Result ℕ ℕ) : Type 0 where
    pub found : IfOk r (IsAt number default l n)
    pub absent : IfErr r (IsGapFor number default l n)
    pub known : IsOk r ↔ IsSome (value_of number value l n)
    pub is_new : OnErr r (value_of number value l n ≡ None)

  tells : (l : List A) → IsAscending number default l → (n : ℕ) (r : Result ℕ ℕ) → IfOk r (IsAt number default l n) × IfErr r (IsGapFor number default l n) → Finds l n r
  tells l ascending n (Ok at) ends =
      record { found = ends.0; absent = tt; known = grind (arith, value_of-at l ascending n at ends.0); is_new = tt }
  tells l ascending n (Err at) ends =
      record { found = tt; absent = ends.1; known = grind (arith, value_of-in_gap l n at ends.1); is_new = value_of-in_gap l n at ends.1 }

  -- a binary search by number among ascending rows
  pub searched : (l : List A) → IsAscending number default l → (n : ℕ) (r : Result ℕ ℕ) → IsSearchInRange r (length l) → IsBinarySearchResult (λ row. nat_cmp (number row) n) l r → Finds l n r
  searched l ascending n r in_range result = tells l ascending n r (search_ends number default l (never_fall number default l ascending) n r in_range result)

  module _ (l : List A) (row : A) (at : ℕ) (gap : IsGapFor number default l (number row) at) where
    -- a new row in the gap is found by its number, and changes what no other number finds
    pub value_of-insert_here : value_of number value (insert l at row) (number row) ≡ Some (value row)
    value_of-insert_here = grind (arith, nat_tests, value_of-insert number value default l row at (λ j lt same. omega (arith, gap.smaller_before j lt)) (number row))

    pub value_of-insert_else : (q : ℕ) → q ≢ number row → value_of number value (insert l at row) q ≡ value_of number value l q
    value_of-insert_else q differs = grind (arith, nat_tests, value_of-insert number value default l row at (λ j lt same. omega (arith, gap.smaller_before j lt)) q)
