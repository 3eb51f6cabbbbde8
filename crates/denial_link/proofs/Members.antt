-- What a list has, by place.
use Rattle.std.proofs.Common.{◌≡◌, ◌⊎◌, inl, inr, ℕ, zero, suc, ◌≤◌, ◌∷◌, [], Bool, true, false, cond, List, take, map, filter, Contains, Some, slice_get, refl, sym, ◌∙◌, ap, subst, arith}
use Rattle.std.proofs.lemmas.Option.{none-some, same_Some}
pub use Rattle.stmt_codec.proofs.Members.{here as has-head, there as has-cons}
pub use Rattle.taos_calculus.proofs.Atoms.{Contains-at as has-at, at-Contains as at-has}

at-cons : {X : Type 0} (y : X) (xs : List X) (x : X) (i : ℕ) → slice_get (y ∷ xs) i ≡ Some x → (y ≡ x) ⊎ Contains xs x
at-cons y xs x zero e = inl (same_Some y x e)
at-cons y xs x (suc i) e = inr (has-at xs i x e)

pub has-cases : {X : Type 0} (y : X) (xs : List X) (x : X) → Contains (y ∷ xs) x → (y ≡ x) ⊎ Contains xs x
has-cases y xs x c = let (i, e) = at-has (y ∷ xs) x c in at-cons y xs x i e

pub has-nil : {X : Type 0} (x : X) → Contains [] x → ⊥
has-nil {X} x c = let (i, e) = at-has [] x c in none-some x e

pub Contains-to_map : {X Y : Type 0} (f : X → Y) (xs : List X) (x : X) → Contains xs x → Contains (map f xs) (f x)
Contains-to_map f [] x c = absurd (has-nil x c)
Contains-to_map f (y ∷ xs) x c =
    elim (has-cases y xs x c) [
      | inl e ↦ subst (λ z. Contains (f y ∷ map f xs) (f z)) e (has-head (f y) (map f xs))
      | inr h ↦ has-cons (f y) (map f xs) (f x) (Contains-to_map f xs x h)
    ]

pub Contains-from_map : {X Y : Type 0} (f : X → Y) (xs : List X) (y : Y) → Contains (map f xs) y → (x : X) × Contains xs x × (f x ≡ y)
Contains-from_map f [] y c = absurd (has-nil y c)
Contains-from_map f (z ∷ xs) y c =
    elim (has-cases (f z) (map f xs) y c) [
      | inl e ↦ (z, has-head z xs, e)
      | inr h ↦ let (x, has, at) = Contains-from_map f xs y h in (x, has-cons z xs x has, at)
    ]

pub Contains-take : {X : Type 0} (n m : ℕ) (xs : List X) (x : X) → n ≤ m → Contains (take n xs) x → Contains (take m xs) x
Contains-take zero m xs x le c = absurd (has-nil x c)
Contains-take (suc n) zero xs x le c = absurd (omega arith)
Contains-take (suc n) (suc m) [] x le c = c
Contains-take (suc n) (suc m) (y ∷ xs) x le c =
    elim (has-cases y (take n xs) x c) [
      | inl e ↦ subst (λ z. Contains (y ∷ take m xs) z) e (has-head y (take m xs))
      | inr h ↦ has-cons y (take m xs) x (Contains-take n m xs x (omega arith) h)
    ]

pub Contains-to_filter : {X : Type 0} (p : X → Bool) (xs : List X) (x : X) → Contains xs x → p x ≡ true → Contains (filter p xs) x
Contains-to_filter p [] x c t = absurd (has-nil x c)
Contains-to_filter p (y ∷ xs) x c t = by (λ h. Contains-to_filter p xs x h t) (p y) refl
  where
    by : (Contains xs x → Contains (filter p xs) x) → (b : Bool) → p y ≡ b → Contains (cond b (y ∷ filter p xs) (filter p xs)) x
    by more true e =
        elim (has-cases y xs x c) [
          | inl f ↦ subst (λ z. Contains (y ∷ filter p xs) z) f (has-head y (filter p xs))
          | inr h ↦ has-cons y (filter p xs) x (more h)
        ]
    by more false e =
        elim (has-cases y xs x c) [
          | inl f ↦ let g : false ≡ true = sym e ∙ ap p f ∙ t in absurd (cc)
          | inr h ↦ more h
        ]
