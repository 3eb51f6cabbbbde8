-- What stands at places of a list.
use Rattle.std.proofs.Common.{◌≡◌, ℕ, zero, suc, rules, ◌<◌, List, [], ◌∷◌, ◌++◌, length, Option, None, Some, IsSome, All, refl, arith}
use Rattle.std.specs.List.{slice_get, filter_map}
use Rattle.std.proofs.lemmas.List.Elements.{All-head, All-tail, All-weaker}
use Rattle.stmt_codec.specs.Certificates.{Certificate}

pub is_there : {X : Type 0} (xs : List X) (i : ℕ) → i < length xs → IsSome (slice_get xs i)
is_there [] i lt = absurd (omega (arith, lt))
is_there (x ∷ xs) zero lt = search rules
is_there (x ∷ xs) (suc i) lt = is_there xs i (omega (arith, lt))

pub slice_at : {X : Type 0} (front : List X) (x : X) (rest : List X) → slice_get (front ++ x ∷ rest) (length front) ≡ Some x
slice_at [] x rest = refl
slice_at (y ∷ front) x rest = slice_at front x rest

-- ---- as many certificates as names

count_one : {X : Type 0} (f : X → Option Certificate) (n : X) (ns : List X) (o : Option Certificate) → f n ≡ o → IsSome o → length (filter_map f ns) ≡ length ns → length (filter_map f (n ∷ ns)) ≡ length (n ∷ ns)
count_one f n ns None e some rest = absurd cc
count_one f n ns (Some c) e some rest = rw e (omega (arith, rest))

pub count_named : {X : Type 0} (f : X → Option Certificate) (ns : List X) → All (λ n. IsSome (f n)) ns → length (filter_map f ns) ≡ length ns
count_named f [] all = refl
count_named f (n ∷ ns) all = count_one f n ns (f n) refl (All-head (λ n. IsSome (f n)) n ns all) (count_named f ns (All-tail (λ n. IsSome (f n)) n ns all))

-- as many certificates as places
pub count_places : (certs : List Certificate) (places : List ℕ) → All (λ i. i < length certs) places → length (filter_map (slice_get certs) places) ≡ length places
count_places certs places within = count_named (slice_get certs) places (All-weaker (λ i. i < length certs) (λ i. IsSome (slice_get certs i)) (λ i lt. is_there certs i lt) places within)
