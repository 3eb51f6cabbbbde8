-- Ascending entries that answer every number alike are the same entries.
use Rattle.std.proofs.Common.{◌≡◌, ℕ, zero, suc, ◌<◌, List, [], ◌∷◌, length, Some, None, refl, arith}
use Rattle.std.proofs.lemmas.Bool.Decides.{nat_tests}
use Rattle.keyed_seal.specs.Keys.{Entries, key_of, number_at, IsAscending}
use Rattle.byte_fields.proofs.FindingRows.{value_of-absent}

ascending-tail : (x : ℕ × List ℕ) (l : Entries) → IsAscending (x ∷ l) → IsAscending l
ascending-tail x l ascending i j lt in_range = omega (arith, ascending (suc i) (suc j) (omega arith) (omega arith))

-- the first number does not come again
key_of-tail : (x : ℕ × List ℕ) (l : Entries) → IsAscending (x ∷ l) → key_of l x.0 ≡ None
key_of-tail x l ascending = value_of-absent (λ e. e.0) (λ e. e.1) (0, []) l x.0 (λ j lt same. omega (arith, ascending 0 (suc j) (omega arith) (omega arith)))

-- a number below the first is not there
key_of-below : (x : ℕ × List ℕ) (l : Entries) (n : ℕ) → IsAscending (x ∷ l) → n < x.0 → key_of (x ∷ l) n ≡ None
key_of-below x l n ascending below = value_of-absent (λ e. e.0) (λ e. e.1) (0, []) (x ∷ l) n none_before
  where
    none_before : (j : ℕ) → j < length (x ∷ l) → number_at (x ∷ l) j ≡ n → ⊥
    none_before zero lt same = omega arith
    none_before (suc j) lt same = omega (arith, ascending 0 (suc j) (omega arith) lt)

key_of-first : (x : ℕ × List ℕ) (l : Entries) → key_of (x ∷ l) x.0 ≡ Some x.1
key_of-first x l = grind (arith, nat_tests)

pub same_entries : (a b : Entries) → IsAscending a → IsAscending b → ((n : ℕ) → key_of a n ≡ key_of b n) → a ≡ b
same_entries [] [] _ _ alike = refl
same_entries [] (y ∷ b) _ _ alike = absurd (grind (arith, alike y.0, key_of-first y b))
same_entries (x ∷ a) [] _ _ alike = absurd (grind (arith, alike x.0, key_of-first x a))
same_entries (x ∷ a) (y ∷ b) up_a up_b alike =
    let not_below : x.0 < y.0 → ⊥ = λ lt. grind (arith, alike x.0, key_of-first x a, key_of-below y b x.0 up_b lt) in
    let not_above : y.0 < x.0 → ⊥ = λ lt. grind (arith, alike y.0, key_of-first y b, key_of-below x a y.0 up_a lt) in
    let same_number : x.0 ≡ y.0 = grind (arith, not_below, not_above) in
    let same_key : x.1 ≡ y.1 = grind (arith, alike x.0, key_of-first x a, key_of-first y b, same_number) in
    let tails_alike : (n : ℕ) → key_of a n ≡ key_of b n = λ n. grind (arith, nat_tests, alike n, key_of-tail x a up_a, key_of-tail y b up_b, same_number) in
    let same_tail = same_entries a b (ascending-tail x a up_a) (ascending-tail y b up_b) tails_alike in
    λ i. (same_number i, same_key i) ∷ same_tail i
