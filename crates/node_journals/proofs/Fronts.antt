-- Lists an element at a time: what holds of each front, and what stands where.
use Rattle.std.proofs.Common.{◌≡◌, ◌⊎◌, ℕ, zero, suc, ◌+◌, ◌<◌, List, [], ◌∷◌, ◌++◌, length, take, drop, Some, slice_get, refl, sym, ◌∙◌, ap, subst, inl, inr, append_assoc, append-nil, arith}
use Rattle.std.proofs.lemmas.List.{length-take-le}
use Rattle.std.proofs.lemmas.Option.{none-some, same_Some, slice_get_within}
use Rattle.proof_cache.proofs.Lists.{split_at}
use Rattle.agent_core.specs.Journals.{Stands}
use Rattle.agent_core.proofs.AtPlaces.{slice_at}

-- what holds of no elements, and stays so with each next one of the list, holds of each front of it
module _ {X : Type 0} (all : List X) (P : List X → Type 0) (step : (front : List X) (x : X) (rest : List X) → all ≡ front ++ x ∷ rest → P front → P (front ++ x ∷ [])) where
  by_fronts : (front more rest : List X) → all ≡ (front ++ more) ++ rest → P front → P (front ++ more)
  by_fronts front [] rest is p = subst P (sym (append-nil front)) p
  by_fronts front (x ∷ more) rest is p =
      let here : all ≡ front ++ x ∷ (more ++ rest) = is ∙ append_assoc front (x ∷ more) rest in
      let same : (front ++ x ∷ []) ++ more ≡ front ++ x ∷ more = append_assoc front (x ∷ []) more in
      subst P same (by_fronts (front ++ x ∷ []) more rest (is ∙ ap (λ l. l ++ rest) (sym same)) (step front x (more ++ rest) here p))

  pub each_front : P [] → (front rest : List X) → all ≡ front ++ rest → P front
  each_front p front rest is = by_fronts [] front rest is p

-- what stands in a list with one element more stands in the list, or is that element
pub push_cases : {X : Type 0} (xs : List X) (x : X) (p : ℕ) (y : X) → slice_get (xs ++ x ∷ []) p ≡ Some y → (slice_get xs p ≡ Some y) ⊎ ((p ≡ length xs) × (x ≡ y))
push_cases [] x zero y h = inr (refl, same_Some x y h)
push_cases [] x (suc p) y h = absurd (none-some y h)
push_cases (z ∷ xs) x zero y h = inl h
push_cases (z ∷ xs) x (suc p) y h = elim (push_cases xs x p y h) [ inl e ↦ inl e | inr w ↦ inr (ap suc w.0, w.1) ]

-- the element after a front stands at its length
pub at_front : {X : Type 0} (all front : List X) (x : X) (rest : List X) → all ≡ front ++ x ∷ rest → slice_get all (length front) ≡ Some x
at_front all front x rest is = ap (λ l. slice_get l (length front)) is ∙ slice_at front x rest

-- what stands at a place stands after a front
pub stands_after : {X : Type 0} (xs : List X) (p : ℕ) (x : X) → slice_get xs p ≡ Some x → Stands xs p (take p xs) x
stands_after xs p x h =
    let lt : p < length xs = slice_get_within xs p x h in
    record { rest = drop (p + 1) xs; is = split_at xs p x h; placed = length-take-le p xs (omega arith) }

-- what stands at a place, stands in a front that is longer
pub in_front : {X : Type 0} (xs ys : List X) (p : ℕ) (x : X) → slice_get (xs ++ ys) p ≡ Some x → p < length xs → slice_get xs p ≡ Some x
in_front [] ys p x h lt = absurd (omega arith)
in_front (y ∷ xs) ys zero x h lt = h
in_front (y ∷ xs) ys (suc p) x h lt = in_front xs ys p x h (omega arith)
