-- What stands in a list behind which one more came, and in one of which one element is another.
use Rattle.std.proofs.Common.{◌≡◌, ◌≢◌, ◌⊎◌, inl, inr, ℕ, zero, suc, ◌<◌, List, [], ◌∷◌, ◌++◌, Option, None, Some, slice_get, length, set, refl, sym, ap, ◌∙◌, arith}
use Rattle.std.specs.Prelude.{option_map, map}
use Rattle.std.proofs.lemmas.Bool.{cases_lt}
use Rattle.std.proofs.lemmas.List.{get_or-set_other, get_or-set_same, length-set}
use Rattle.std.proofs.lemmas.Option.{none-some, same_Some, slice_get-get_or, slice_get-map, slice_get_past}

pub pushed_at : {X : Type 0} (xs : List X) (y : X) (i : ℕ) (x : X) → slice_get (xs ++ y ∷ []) i ≡ Some x → (slice_get xs i ≡ Some x) ⊎ ((i ≡ length xs) × (y ≡ x))
pushed_at [] y zero x e = inr (refl, same_Some y x e)
pushed_at [] y (suc i) x e = absurd (none-some x e)
pushed_at (z ∷ xs) y zero x e = inl e
pushed_at (z ∷ xs) y (suc i) x e = elim (pushed_at xs y i x e) [ inl p ↦ inl p | inr p ↦ inr (ap suc p.0, p.1) ]

pub set_here : {X : Type 0} (xs : List X) (i : ℕ) (a : X) → i < length xs → slice_get (set xs i a) i ≡ Some a
set_here xs i a h = slice_get-get_or (set xs i a) i a (omega (arith, h, length-set xs i a)) ∙ ap Some (get_or-set_same xs i a a h)

pub set_there : {X : Type 0} (xs : List X) (i j : ℕ) (a : X) → j ≢ i → slice_get (set xs i a) j ≡ slice_get xs j
set_there xs i j a ne =
    elim (cases_lt j (length xs)) [
      | inl lt ↦ slice_get-get_or (set xs i a) j a (omega (arith, lt, length-set xs i a)) ∙ ap Some (get_or-set_other xs i j a a ne) ∙ sym (slice_get-get_or xs j a lt)
      | inr le ↦ slice_get_past (set xs i a) j (omega (arith, le, length-set xs i a)) ∙ sym (slice_get_past xs j le)
    ]

-- what stands in a list that is made of another
pub made_of : {X Y : Type 0} (f : X → Y) (xs : List X) (i : ℕ) (y : Y) → slice_get (map f xs) i ≡ Some y → (x : X) × (slice_get xs i ≡ Some x) × (f x ≡ y)
made_of {X} {Y} f xs i y e = go (slice_get xs i) refl
  where
    go : (o : Option X) → slice_get xs i ≡ o → (x : X) × (slice_get xs i ≡ Some x) × (f x ≡ y)
    go None q = let n : slice_get (map f xs) i ≡ None = slice_get-map f xs i ∙ ap (option_map f) q in absurd (cc)
    go (Some x) q = (x, q, same_Some (f x) y (sym (slice_get-map f xs i ∙ ap (option_map f) q) ∙ e))
