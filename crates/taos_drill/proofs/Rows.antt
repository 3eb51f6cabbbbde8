-- What holds of things that are numbered in a row.
use Rattle.std.proofs.Common.{ℕ, zero, suc, ◌+◌, ◌<◌, ◌≤◌, List, [], ◌∷◌, ◌++◌, map, subst, append-nil, arith}
use Rattle.std.specs.Prelude.{All, AllPairs}
use Rattle.std.specs.List.{flat_map, range_with_len}
use Rattle.std.proofs.lemmas.List.Elements.{All-append, All-cons, All-nil}
use Rattle.std.proofs.lemmas.List.Kept.{AllPairs-cons}

-- each of them
pub row_all : {X : Type 0} (P : X → Type 0) (f : ℕ → X) (a n : ℕ) → ((i : ℕ) → a ≤ i → i < a + n → P (f i)) → All P (map f (range_with_len a n))
row_all P f a zero each = All-nil P
row_all P f a (suc n) each =
    let here : P (f a) = each a (omega arith) (omega arith) in
    All-cons P (f a) (map f (range_with_len (a + 1) n)) here (row_all P f (a + 1) n (λ i from below. each i (omega (arith, from)) (omega (arith, below))))

-- none
no_pairs : {X : Type 0} (R : X → X → Type 0) → AllPairs R []
no_pairs R i j d before within = absurd (omega (arith, within))

-- each two of them, and each of them with what follows
pub row_pairs_then : {X : Type 0} (R : X → X → Type 0) (f : ℕ → X) (a n : ℕ) (ys : List X) → ((i j : ℕ) → i < j → R (f i) (f j)) → ((i : ℕ) → i < a + n → All (R (f i)) ys) → AllPairs R ys
    → AllPairs R (map f (range_with_len a n) ++ ys)
row_pairs_then R f a zero ys apart then pairs = pairs
row_pairs_then R f a (suc n) ys apart then pairs =
    let rest = map f (range_with_len (a + 1) n) in
    let later : All (R (f a)) rest = row_all (R (f a)) f (a + 1) n (λ i from below. apart a i (omega (arith, from))) in
    let behind : All (R (f a)) ys = then a (omega arith) in
    AllPairs-cons R (f a) (rest ++ ys) (All-append (R (f a)) rest ys later behind)
    (row_pairs_then R f (a + 1) n ys apart (λ i below. then i (omega (arith, below))) pairs)

pub row_pairs : {X : Type 0} (R : X → X → Type 0) (f : ℕ → X) (a n : ℕ) → ((i j : ℕ) → i < j → R (f i) (f j)) → AllPairs R (map f (range_with_len a n))
row_pairs R f a n apart =
    subst (AllPairs R) (append-nil (map f (range_with_len a n))) (row_pairs_then R f a n [] apart (λ i below. All-nil (R (f i))) (no_pairs R))

-- one alone
pub one_pair : {X : Type 0} (R : X → X → Type 0) (x : X) → AllPairs R (x ∷ [])
one_pair R x i j d before within = absurd (omega (arith, before, within))

-- each item of all of them
pub flat_all : {A : Type 0} (P : A → Type 0) (f : ℕ → List A) (xs : List ℕ) → ((i : ℕ) → All P (f i)) → All P (flat_map f xs)
flat_all P f [] each = All-nil P
flat_all P f (x ∷ xs) each = All-append P (f x) (flat_map f xs) (each x) (flat_all P f xs each)
