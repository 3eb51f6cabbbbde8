-- Places of lists, and lists that go in pairs.
use Rattle.std.proofs.Common.{◌≡◌, ◌⊎◌, inl, inr, ℕ, zero, suc, ◌<◌, List, [], ◌∷◌, ◌++◌, map, length, Some, slice_get, Contains, refl, sym, ap, subst, ◌∙◌, arith}
use Rattle.std.specs.List.{AllZip}
use Rattle.std.specs.Option.{option_map}
use Rattle.std.proofs.lemmas.List.{length-map}
use Rattle.std.proofs.lemmas.Option.{none-some, same_Some, slice_get-map, slice_get_within, get_or_from_slice_get}

module _ {X : Type 0} where
  -- what stands at a place within
  pub there : (xs : List X) (k : ℕ) → k < length xs → (x : X) × (slice_get xs k ≡ Some x)
  there [] k h = absurd (omega arith)
  there (x ∷ xs) zero h = (x, refl)
  there (x ∷ xs) (suc k) h = there xs k (omega arith)

  pub contained : (xs : List X) (k : ℕ) (x : X) → slice_get xs k ≡ Some x → Contains xs x
  contained xs k x e = (k, slice_get_within xs k x e, get_or_from_slice_get xs k x x e)

  pub placed : (xs : List X) (x : X) → Contains xs x → (k : ℕ) × (slice_get xs k ≡ Some x)
  placed xs x (k, lt, e) = let (y, at) = there xs k lt in (k, at ∙ ap (λ (z : X). Some z) (sym (get_or_from_slice_get xs k y x at) ∙ e))

  pub contains_head : (x : X) (xs : List X) → Contains (x ∷ xs) x
  contains_head x xs = (0, omega arith, refl)

  pub contains_tail : (x y : X) (xs : List X) → Contains xs y → Contains (x ∷ xs) y
  contains_tail x y xs (k, lt, e) = (suc k, omega arith, e)

  -- what stands at a place after one more came
  pub pushed : (xs : List X) (y : X) (k : ℕ) (x : X) → slice_get (xs ++ y ∷ []) k ≡ Some x → (slice_get xs k ≡ Some x) ⊎ ((k ≡ length xs) × (y ≡ x))
  pushed [] y zero x e = inr (refl, same_Some y x e)
  pushed [] y (suc k) x e = absurd (none-some x e)
  pushed (z ∷ xs) y zero x e = inl e
  pushed (z ∷ xs) y (suc k) x e = elim (pushed xs y k x e) [
    | inl f ↦ inl f
    | inr q ↦ inr (omega (arith, q.0), q.1)
  ]

module _ {X Y : Type 0} (f : X → Y) where
  pub contains_map : (xs : List X) (x : X) → Contains xs x → Contains (map f xs) (f x)
  contains_map xs x has = let (k, at) = placed xs x has in contained (map f xs) k (f x) (slice_get-map f xs k ∙ ap (option_map f) at)

  pub contains_from_map : (xs : List X) (y : Y) → Contains (map f xs) y → (x : X) × Contains xs x × (f x ≡ y)
  contains_from_map xs y has =
      let (k, at) = placed (map f xs) y has in
      let long : length (map f xs) ≡ length xs = length-map xs f in
      let within : k < length (map f xs) = slice_get_within (map f xs) k y at in
      let (x, is) = there xs k (omega arith) in
      (x, contained xs k x is, same_Some (f x) y (ap (option_map f) (sym is) ∙ (sym (slice_get-map f xs k) ∙ at)))

module _ {A B : Type 0} (R : A → B → Type 0) where
  pub zip_length : (xs : List A) (ys : List B) → AllZip R xs ys → length xs ≡ length ys
  zip_length [] [] z = refl
  zip_length [] (y ∷ ys) z = absurd z
  zip_length (x ∷ xs) [] z = absurd z
  zip_length (x ∷ xs) (y ∷ ys) z = omega (arith, zip_length xs ys z.1)

  pub zip_push : (xs : List A) (ys : List B) (x : A) (y : B) → AllZip R xs ys → R x y → AllZip R (xs ++ x ∷ []) (ys ++ y ∷ [])
  zip_push [] [] x y z r = (r, tt)
  zip_push [] (w ∷ ys) x y z r = absurd z
  zip_push (v ∷ xs) [] x y z r = absurd z
  zip_push (v ∷ xs) (w ∷ ys) x y z r = (z.0, zip_push xs ys x y z.1 r)

  -- what stands at a place of the second list has its partner in the first
  pub zip_at : (xs : List A) (ys : List B) (k : ℕ) (y : B) → AllZip R xs ys → slice_get ys k ≡ Some y → (x : A) × (slice_get xs k ≡ Some x) × R x y
  zip_at [] [] k y z e = absurd (none-some y e)
  zip_at [] (w ∷ ys) k y z e = absurd z
  zip_at (x ∷ xs) [] k y z e = absurd z
  zip_at (x ∷ xs) (w ∷ ys) zero y z e = (x, refl, subst (R x) (same_Some w y e) z.0)
  zip_at (x ∷ xs) (w ∷ ys) (suc k) y z e = zip_at xs ys k y z.1 e
