-- The chosen certificates of a question, by their places.
--     picked-at      what is picked stands at its place, and is marked there
--     has-picked      what is marked is picked
use Rattle.std.proofs.Common.{◌≡◌, ℕ, zero, suc, ◌+◌, Bool, true, false, List, [], ◌∷◌, Some, slice_get, refl, ap, ap₂, subst, arith}
use Rattle.std.proofs.lemmas.Option.{none-some, same_Some}
use Rattle.taos_calculus.specs.Question.{picked}

-- what stands at a place of a list, and is marked there
pub record IsPicked {X : Type 0} (at : ℕ) (xs : List X) (marks : List Bool) (place : ℕ) (x : X) : Type 0 where
  pub number : ℕ
  pub place_is : place ≡ at + number
  pub stands : slice_get xs number ≡ Some x
  pub marked : slice_get marks number ≡ Some true

pub picked-at : {X : Type 0} (at : ℕ) (xs : List X) (marks : List Bool) (k place : ℕ) (x : X) →
    slice_get (picked at xs marks) k ≡ Some (place, x) → IsPicked at xs marks place x
picked-at at [] marks k place x e = absurd (none-some (place, x) e)
picked-at at (y ∷ xs) [] k place x e = absurd (none-some (place, x) e)
picked-at {X} at (y ∷ xs) (true ∷ marks) zero place x e =
    let q : (at, y) ≡ (place, x) = same_Some (at, y) (place, x) e in
    let here : at ≡ place = ap (λ (z : ℕ × X). z.0) q in
    record { number = 0; place_is = omega (arith, here); stands = ap (λ (z : ℕ × X). Some z.1) q; marked = refl }
picked-at at (y ∷ xs) (true ∷ marks) (suc k) place x e =
    let h : IsPicked (at + 1) xs marks place x = picked-at (at + 1) xs marks k place x e in
    record { number = suc h.number; place_is = omega (arith, h.place_is); stands = h.stands; marked = h.marked }
picked-at at (y ∷ xs) (false ∷ marks) k place x e =
    let h : IsPicked (at + 1) xs marks place x = picked-at (at + 1) xs marks k place x e in
    record { number = suc h.number; place_is = omega (arith, h.place_is); stands = h.stands; marked = h.marked }

abbrev spot : {X : Type 0} → ℕ → X → ℕ × X
spot k x = (k, x)

abbrev pub HasPicked : {X : Type 0} → ℕ → List X → List Bool → ℕ → X → Type 0
HasPicked at xs marks m x = (k : ℕ) × (slice_get (picked at xs marks) k ≡ Some (at + m, x))

pub has-picked : {X : Type 0} (at : ℕ) (xs : List X) (marks : List Bool) (m : ℕ) (x : X) →
    slice_get xs m ≡ Some x → slice_get marks m ≡ Some true → HasPicked at xs marks m x
has-picked at [] marks m x e t = absurd (none-some x e)
has-picked at (y ∷ xs) [] m x e t = absurd (none-some true t)
has-picked {X} at (y ∷ xs) (true ∷ marks) zero x e t =
    let q : y ≡ x = same_Some y x e in
    let n : at ≡ at + 0 = omega arith in
    (0, ap₂ (λ (k : ℕ) (z : X). Some (spot k z)) n q)
has-picked at (y ∷ xs) (false ∷ marks) zero x e t = absurd (let q : false ≡ true = same_Some false true t in cc)
has-picked at (y ∷ xs) (true ∷ marks) (suc m) x e t =
    let (k, s) = has-picked (at + 1) xs marks m x e t in
    let n : (at + 1) + m ≡ at + suc m = omega arith in
    (suc k, subst (λ j. slice_get (picked (at + 1) xs marks) k ≡ Some (j, x)) n s)
has-picked at (y ∷ xs) (false ∷ marks) (suc m) x e t =
    let (k, s) = has-picked (at + 1) xs marks m x e t in
    let n : (at + 1) + m ≡ at + suc m = omega arith in
    (k, subst (λ j. slice_get (picked (at + 1) xs marks) k ≡ Some (j, x)) n s)
