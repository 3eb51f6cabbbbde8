-- What is taken in of a question: the chosen certificates and the list, one after another.
use Rattle.std.proofs.Common.{◌≡◌, ℕ, zero, suc, ◌+◌, ◌<◌, ◌≤◌, Bool, true, false, List, [], ◌∷◌, ◌++◌, Option, Some, None, slice_get, get_or, length, map, take, refl, ap, ap₂, ◌∙◌, arith, All}
use Rattle.std.proofs.lemmas.List.{length-map}
use Rattle.std.proofs.lemmas.List.Elements.{All-head, All-tail}
use Rattle.std.proofs.lemmas.Option.{none-some, same_Some, slice_get-map, slice_get-get_or}
use Rattle.std.specs.Prelude.{MatchOption, IsSome, option_map}
use Rattle.prin_term.specs.declared.term.Entry.{Entry}
use Rattle.prin_term.specs.Principal.{Principal}
use Rattle.prin_term.specs.View.{Grant, grant, principal}
use Rattle.stmt_codec.specs.Certificates.{Certificate}
use Rattle.taos_calculus.specs.Question.{picked, claim_of}
use Rattle.taos_calculus.specs.Rules.{Claim}
use Rattle.taos_calculus.proofs.Asking.{IsPicked, picked-at}
use Rattle.term_pool.specs.declared.cited.Cited.{Cited}
use Rattle.term_pool.specs.Claims.{chosen_by, claim_by}

-- what two functions make of a list is the same where they agree
pub map_same : {X Y : Type 0} (f g : X → Y) (xs : List X) → All (λ x. f x ≡ g x) xs → map f xs ≡ map g xs
map_same f g [] all = refl
map_same {X} {Y} f g (x ∷ xs) all = ap₂ (λ (y : Y) (ys : List Y). y ∷ ys) (All-head (λ x. f x ≡ g x) x xs all) (map_same f g xs (All-tail (λ x. f x ≡ g x) x xs all))

-- one element more is looked at
pub picked-true : {X : Type 0} (at : ℕ) (xs : List X) (marks : List Bool) (i : ℕ) (x : X) → slice_get xs i ≡ Some x → slice_get marks i ≡ Some true →
    picked at (take (suc i) xs) (take (suc i) marks) ≡ picked at (take i xs) (take i marks) ++ (at + i, x) ∷ []
picked-true at [] marks i x e f = absurd (none-some x e)
picked-true at (y ∷ xs) [] i x e f = absurd (none-some true f)
picked-true {X} at (y ∷ xs) (true ∷ marks) zero x e f =
    let n : at ≡ at + 0 = omega arith in
    let q : y ≡ x = same_Some y x e in λ k. (n k, q k) ∷ []
picked-true at (y ∷ xs) (false ∷ marks) zero x e f = absurd (let q : false ≡ true = same_Some false true f in cc)
picked-true {X} at (y ∷ xs) (true ∷ marks) (suc i) x e f =
    let n : (at + 1) + i ≡ at + suc i = omega arith in
    ap (λ (l : List (ℕ × X)). (at, y) ∷ l) (picked-true (at + 1) xs marks i x e f ∙ (λ k. picked (at + 1) (take i xs) (take i marks) ++ (n k, x) ∷ []))
picked-true {X} at (y ∷ xs) (false ∷ marks) (suc i) x e f =
    let n : (at + 1) + i ≡ at + suc i = omega arith in
    picked-true (at + 1) xs marks i x e f ∙ (λ k. picked (at + 1) (take i xs) (take i marks) ++ (n k, x) ∷ [])

pub picked-false : {X : Type 0} (at : ℕ) (xs : List X) (marks : List Bool) (i : ℕ) → slice_get marks i ≡ Some false →
    picked at (take (suc i) xs) (take (suc i) marks) ≡ picked at (take i xs) (take i marks)
picked-false at [] marks zero f = refl
picked-false at [] marks (suc i) f = refl
picked-false at (y ∷ xs) [] i f = absurd (none-some false f)
picked-false at (y ∷ xs) (true ∷ marks) zero f = absurd (let q : true ≡ false = same_Some true false f in cc)
picked-false at (y ∷ xs) (false ∷ marks) zero f = refl
picked-false {X} at (y ∷ xs) (true ∷ marks) (suc i) f = ap (λ (l : List (ℕ × X)). (at, y) ∷ l) (picked-false (at + 1) xs marks i f)
picked-false at (y ∷ xs) (false ∷ marks) (suc i) f = picked-false (at + 1) xs marks i f

pub mapped_at : {X : Type 0} (f : X → Certificate) (xs : List X) (i : ℕ) (d : X) → i < length xs → slice_get (map claim_of (map f xs)) i ≡ Some (claim_of (f (get_or xs i d)))
mapped_at f xs i d h =
    slice_get-map claim_of (map f xs) i ∙ ap (option_map claim_of) (slice_get-map f xs i ∙ ap (option_map f) (slice_get-get_or xs i d h))

pub few_mapped : {X Y : Type 0} (f : X → Y) (xs : List X) (n : ℕ) → length (map f xs) ≤ n → length xs ≤ n
few_mapped f xs n h = omega (arith, h, length-map xs f)

pub map_who : (list : List Entry) → map (λ (e : Entry). principal e.who) list ≡ map (λ (g : Grant). g.who) (map grant list)
map_who [] = refl
map_who (e ∷ list) = ap (λ (ps : List Principal). principal e.who ∷ ps) (map_who list)

-- no place is picked twice
pub picked-apart : {X : Type 0} (at : ℕ) (xs : List X) (marks : List Bool) (i j place : ℕ) (x y : X) →
    slice_get (picked at xs marks) i ≡ Some (place, x) → slice_get (picked at xs marks) j ≡ Some (place, y) → i ≡ j
picked-apart at [] marks i j place x y e f = absurd (none-some (place, x) e)
picked-apart at (z ∷ xs) [] i j place x y e f = absurd (none-some (place, x) e)
picked-apart at (z ∷ xs) (true ∷ marks) zero zero place x y e f = refl
picked-apart {X} at (z ∷ xs) (true ∷ marks) zero (suc j) place x y e f =
    let first : at ≡ place = ap (λ (w : ℕ × X). w.0) (same_Some (at, z) (place, x) e) in
    let h : IsPicked (at + 1) xs marks place y = picked-at (at + 1) xs marks j place y f in
    absurd (omega (arith, first, h.place_is))
picked-apart {X} at (z ∷ xs) (true ∷ marks) (suc i) zero place x y e f =
    let first : at ≡ place = ap (λ (w : ℕ × X). w.0) (same_Some (at, z) (place, y) f) in
    let h : IsPicked (at + 1) xs marks place x = picked-at (at + 1) xs marks i place x e in
    absurd (omega (arith, first, h.place_is))
picked-apart at (z ∷ xs) (true ∷ marks) (suc i) (suc j) place x y e f = ap suc (picked-apart (at + 1) xs marks i j place x y e f)
picked-apart at (z ∷ xs) (false ∷ marks) i j place x y e f = picked-apart (at + 1) xs marks i j place x y e f

-- what is not none is some
pub some_if : {X : Type 0} (o : Option X) (N : Type 0) (S : X → Type 0) → MatchOption o N S → (N → ⊥) → IsSome o
some_if None N S m h = absurd (h m)
some_if (Some x) N S m h = refl

-- what the chosen certificates say
pub claims-map : (p : ℕ → Principal) (cited : List Cited) → map (λ (x : ℕ × Claim). x.1) (map (chosen_by p) cited) ≡ map (claim_by p) cited
claims-map p [] = refl
claims-map p (c ∷ cited) = ap (λ (xs : List Claim). claim_by p c ∷ xs) (claims-map p cited)
