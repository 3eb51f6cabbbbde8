-- The channels of a plan stand once each; what is changed at one of them.
use Rattle.std.proofs.Common.{◌≡◌, ℕ, zero, suc, ◌+◌, ◌<◌, cond, List, [], ◌∷◌, length, get_or, sum_by, Some, Contains, AllPairs, refl, ap, subst, arith}
use Rattle.std.specs.List.{slice_get}
use Rattle.std.specs.List.Sorted.{IsStrictlyIncreasing}
use Rattle.std.proofs.lemmas.Bool.{ne_eqb, eq-eqb}
use Rattle.std.proofs.lemmas.List.Kept.{AllPairs-from_increasing}
use Rattle.std.proofs.lemmas.List.Sums.{sum_by-cons}
use Rattle.std.proofs.lemmas.Option.{slice_get_within, get_or_from_slice_get}
use Rattle.agent_core.specs.State.{at_channel}

abbrev IsRising : List ℕ → Type 0
IsRising xs = AllPairs (λ x y. x < y) xs

rising_tail : (x : ℕ) (xs : List ℕ) → IsRising (x ∷ xs) → IsRising xs
rising_tail x xs up i j d lt within = up (suc i) (suc j) d (omega (arith, lt)) (omega (arith, within))

rising_head : (x : ℕ) (xs : List ℕ) → IsRising (x ∷ xs) → (i y : ℕ) → slice_get xs i ≡ Some y → x < y
rising_head x xs up i y at =
    let less = up 0 (suc i) 0 (omega arith) (omega (arith, slice_get_within xs i y at)) in
    let there : get_or xs i 0 ≡ y = get_or_from_slice_get xs i y 0 at in
    omega (arith, less, there)

-- a number stands at one place
one_place : (xs : List ℕ) → IsRising xs → (i j x : ℕ) → slice_get xs i ≡ Some x → slice_get xs j ≡ Some x → i ≡ j
one_place [] up i j x a b = absurd cc
one_place (y ∷ ys) up zero zero x a b = refl
one_place (y ∷ ys) up zero (suc j) x a b = let same : y ≡ x = cc in absurd (omega (arith, same, rising_head y ys up j x b))
one_place (y ∷ ys) up (suc i) zero x a b = let same : y ≡ x = cc in absurd (omega (arith, same, rising_head y ys up i x a))
one_place (y ∷ ys) up (suc i) (suc j) x a b = ap suc (one_place ys (rising_tail y ys up) i j x a b)

pub other_channel : (xs : List ℕ) → IsStrictlyIncreasing xs → (place i channel c : ℕ) → slice_get xs place ≡ Some channel → slice_get xs i ≡ Some c → (i ≡ place → ⊥) → c ≡ channel → ⊥
other_channel xs up place i channel c here there ne e =
    ne (one_place xs (AllPairs-from_increasing xs up) i place channel (subst (λ d. slice_get xs i ≡ Some d) e there) here)

pub contains_at : (xs : List ℕ) (i x : ℕ) → slice_get xs i ≡ Some x → Contains xs x
contains_at xs i x at = (i, slice_get_within xs i x at, get_or_from_slice_get xs i x x at)

pub here_changed : {X : Type 0} (channel : ℕ) (x : X) (f : ℕ → X) → at_channel channel x f channel ≡ x
here_changed channel x f = ap (λ b. cond b x (f channel)) (eq-eqb channel channel refl)

pub there_kept : {X : Type 0} (channel : ℕ) (x : X) (f : ℕ → X) (c : ℕ) → (c ≡ channel → ⊥) → at_channel channel x f c ≡ f c
there_kept channel x f c ne = ap (λ b. cond b x (f c)) (ne_eqb c channel ne)

pub sums_same : (f g : ℕ → ℕ) (xs : List ℕ) → ((i x : ℕ) → slice_get xs i ≡ Some x → f x ≡ g x) → sum_by f xs ≡ sum_by g xs
sums_same f g [] same = refl
sums_same f g (x ∷ xs) same = omega (arith, sum_by-cons f x xs, sum_by-cons g x xs, same 0 x refl, sums_same f g xs (λ i y at. same (suc i) y at))

-- where one channel counts nothing any more, the sum is less by what it counted
sum_less : (f g : ℕ → ℕ) (channel : ℕ) → g channel ≡ 0 → ((c : ℕ) → (c ≡ channel → ⊥) → g c ≡ f c) → (xs : List ℕ) → IsRising xs → (place : ℕ) → slice_get xs place ≡ Some channel → sum_by g xs + f channel ≡ sum_by f xs
sum_less f g channel none other [] up place at = absurd cc
sum_less f g channel none other (x ∷ xs) up zero at =
    let same : x ≡ channel = cc in
    let rest = sums_same g f xs (λ i y there. other y (λ (e : y ≡ channel). absurd (omega (arith, e, same, rising_head x xs up i y there)))) in
    omega (arith, sum_by-cons f x xs, sum_by-cons g x xs, ap f same, ap g same, none, rest)
sum_less f g channel none other (x ∷ xs) up (suc place) at =
    let here = other x (λ (e : x ≡ channel). absurd (omega (arith, e, rising_head x xs up place channel at))) in
    omega (arith, sum_by-cons f x xs, sum_by-cons g x xs, here, sum_less f g channel none other xs (rising_tail x xs up) place at)

pub count_emptied : {X : Type 0} (own : ℕ → List X) (channel : ℕ) (xs : List ℕ) → IsStrictlyIncreasing xs → (place : ℕ) → slice_get xs place ≡ Some channel →
    sum_by (λ c. length (at_channel channel [] own c)) xs + length (own channel) ≡ sum_by (λ c. length (own c)) xs
count_emptied {X} own channel xs up place at =
    sum_less (λ c. length (own c)) (λ c. length (at_channel channel [] own c)) channel (ap (λ (ys : List X). length ys) (here_changed channel [] own))
    (λ c ne. ap (λ (ys : List X). length ys) (there_kept channel [] own c ne)) xs (AllPairs-from_increasing xs up) place at

pub count_kept : {X : Type 0} (own : ℕ → List X) (channel : ℕ) (xs : List ℕ) → (Contains xs channel → ⊥) → sum_by (λ c. length (at_channel channel [] own c)) xs ≡ sum_by (λ c. length (own c)) xs
count_kept {X} own channel xs absent =
    sums_same (λ c. length (at_channel channel [] own c)) (λ c. length (own c)) xs
    (λ i c at. ap (λ (ys : List X). length ys) (there_kept channel [] own c (λ (e : c ≡ channel). absent (subst (Contains xs) e (contains_at xs i c at)))))
