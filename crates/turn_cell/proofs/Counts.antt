-- How many places a pass has that has each place once.
use Rattle.std.proofs.Common.{◌≡◌, ℕ, zero, suc, ◌+◌, ◌-◌, ◌<◌, ◌≤◌, eqb, cond, ltb, List, [], ◌∷◌, length, refl, sym, ◌∙◌, arith}
use Rattle.std.proofs.lemmas.Bool.Decides.{nat_tests}
use Rattle.std.proofs.lemmas.List.Sums.{sum_by-cons}
use Rattle.turn_cell.specs.Journal.{times, once_within, HasEach}

times-cons : (place x : ℕ) (xs : List ℕ) → times place (x ∷ xs) ≡ cond (eqb x place) 1 0 + times place xs
times-cons place x xs = sum_by-cons (λ q. cond (eqb q place) 1 0) x xs

-- how often the numbers below n stand in the list
below : ℕ → List ℕ → ℕ
below zero xs = 0
below (suc n) xs = below n xs + times n xs

below_nil : (n : ℕ) → below n [] ≡ 0
unfolding below
below_nil zero = refl
below_nil (suc n) = omega (arith, below_nil n)

one_more : (a x n : ℕ) → cond (ltb x n) 1 0 + cond (eqb x n) 1 0 ≡ cond (ltb x (suc n)) 1 0
one_more a x n = grind (arith, nat_tests)

below_cons : (n x : ℕ) (xs : List ℕ) → below n (x ∷ xs) ≡ cond (ltb x n) 1 0 + below n xs
unfolding below
below_cons zero x xs = grind (arith, nat_tests)
below_cons (suc n) x xs = omega (arith, below_cons n x xs, times-cons n x xs, one_more 0 x n)

inside : (x n : ℕ) → x < n → ◌≡◌ {A = ℕ} (cond (ltb x n) 1 0) 1
inside x n h = grind (arith, nat_tests)

here : (x : ℕ) → ◌≡◌ {A = ℕ} (cond (eqb x x) 1 0) 1
here x = grind (arith, nat_tests)

below_all : (n : ℕ) (xs : List ℕ) → ((p : ℕ) → 0 < times p xs → p < n) → below n xs ≡ length xs
below_all n [] h = below_nil n
below_all n (x ∷ xs) h = let a = inside x n (h x (omega (arith, times-cons x x xs, here x))) in
    omega (arith, below_cons n x xs, below_all n xs (λ p g. h p (omega (arith, times-cons p x xs))))

step_up : (first last n : ℕ) → n < last → (n - first) + once_within first last n ≡ suc n - first
step_up first last n h = grind (arith, nat_tests)

below_within : (first last n : ℕ) (xs : List ℕ) → ((p : ℕ) → times p xs ≡ once_within first last p) → n ≤ last → below n xs ≡ n - first
unfolding below
below_within first last zero xs h le = omega arith
below_within first last (suc n) xs h le = omega (arith, below_within first last n xs h (omega arith), h n, step_up first last n (omega arith))

within_last : (first last p : ℕ) → 0 < once_within first last p → p < last
within_last first last p h = grind (arith, nat_tests)

-- a list that has each number from `first` to before `last` once, and no other, is as long as they are many
pub length_within : (first last : ℕ) (xs : List ℕ) → HasEach first last xs → length xs ≡ last - first
length_within first last xs h = sym (below_all last xs (λ p g. within_last first last p (let e = h p in omega arith))) ∙ below_within first last last xs h (omega arith)
