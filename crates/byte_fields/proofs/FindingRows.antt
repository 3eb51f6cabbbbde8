-- What `value_of` finds among rows, and what one more row does to it.
use Rattle.std.proofs.Common.{◌≡◌, ℕ, zero, suc, ◌<◌, eqb, ◌≢◌, List, [], ◌∷◌, length, get_or, if◌then◌else◌, Some, None, refl, arith}
use Rattle.std.specs.List.{insert}
use Rattle.std.proofs.lemmas.Bool.Decides.{nat_tests}
use Rattle.byte_fields.specs.Rows.{value_of, number_at, IsAt}

module _ {A V : Type 0} (number : A → ℕ) (value : A → V) (default : A) where
  -- no row before place i has the number
  abbrev pub HasNoneBefore : List A → ℕ → ℕ → Type 0
  HasNoneBefore l n i = (j : ℕ) → j < i → number_at number default l j ≢ n

  -- in the tail neither
  none_before_tail : (x : A) (l : List A) (n i : ℕ) → HasNoneBefore (x ∷ l) n (suc i) → HasNoneBefore l n i
  none_before_tail x l n i none_before j lt = none_before (suc j) (omega arith)

  -- in the tail, a row is one place lower
  is_at_tail : (x : A) (l : List A) (n i : ℕ) → IsAt number default (x ∷ l) n (suc i) → IsAt number default l n i
  is_at_tail x l n i is_at = record { in_range = omega (arith, is_at.in_range); has_number = is_at.has_number }

  -- a number that no row has is not found
  pub value_of-absent : (l : List A) (n : ℕ) → HasNoneBefore l n (length l) → value_of number value l n ≡ None
  value_of-absent [] n none_before = refl
  value_of-absent (x ∷ l) n none_before = grind (arith, nat_tests, none_before 0 (omega arith), value_of-absent l n (none_before_tail x l n _ none_before))

  -- the first row that has the number gives the value
  pub value_of-present : (l : List A) (n i : ℕ) → IsAt number default l n i → HasNoneBefore l n i → value_of number value l n ≡ Some (value (get_or l i default))
  value_of-present [] n i is_at none_before = absurd (omega (arith, is_at.in_range))
  value_of-present (x ∷ l) n zero is_at none_before = grind (arith, nat_tests, is_at.has_number)
  value_of-present (x ∷ l) n (suc i) is_at none_before = grind (arith, nat_tests, none_before 0 (omega arith), value_of-present l n i (is_at_tail x l n i is_at) (none_before_tail x l n i none_before))

  -- a new row before any that has its number sets what this number finds alone
  pub value_of-insert : (l : List A) (row : A) (i : ℕ) → HasNoneBefore l (number row) i → (q : ℕ) → value_of number value (insert l i row) q ≡ (if eqb (number row) q then Some (value row) else value_of number value l q)
  value_of-insert l row zero none_before q = refl
  value_of-insert [] row (suc i) none_before q = refl
  value_of-insert (x ∷ l) row (suc i) none_before q = grind (arith, nat_tests, none_before 0 (omega arith), value_of-insert l row i (none_before_tail x l (number row) i none_before) q)
