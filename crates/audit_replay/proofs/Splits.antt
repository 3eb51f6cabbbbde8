-- How lists fall apart.
use Rattle.std.proofs.Common.{◌≡◌, ◌⊎◌, inl, inr, ℕ, zero, suc, ◌<◌, List, [], ◌∷◌, ◌++◌, length, map, Some, slice_get, refl, sym, ap, ap₂, ◌∙◌, arith, append_assoc}
use Rattle.std.proofs.lemmas.Option.{same_Some, slice_get_within}
use Rattle.agent_core.proofs.AtPlaces.{slice_at}

module _ {X : Type 0} where
  pub head_is : (x y : X) (xs ys : List X) → x ∷ xs ≡ y ∷ ys → x ≡ y
  head_is x y xs ys e = cc

  pub tail_is : (x y : X) (xs ys : List X) → x ∷ xs ≡ y ∷ ys → xs ≡ ys
  tail_is x y xs ys e = cc

  pub nothing : (b : List X) (y : X) (r : List X) → [] ≡ b ++ y ∷ r → ⊥
  nothing [] y r e = absurd cc
  nothing (z ∷ b) y r e = absurd cc

  -- where as much stands in front, the same stands there and behind
  pub same_parts : (a b : List X) (x y : X) (r s : List X) → a ++ x ∷ r ≡ b ++ y ∷ s → length a ≡ length b → (a ≡ b) × (x ≡ y) × (r ≡ s)
  same_parts [] [] x y r s e long = (refl, head_is x y r s e, tail_is x y r s e)
  same_parts [] (w ∷ b) x y r s e long = absurd (omega (arith, long))
  same_parts (z ∷ a) [] x y r s e long = absurd (omega (arith, long))
  same_parts (z ∷ a) (w ∷ b) x y r s e long =
      let (fronts, here, rests) = same_parts a b x y r s (tail_is z w (a ++ x ∷ r) (b ++ y ∷ s) e) (omega (arith, long)) in
      (ap₂ (λ h l. h ∷ l) (head_is z w (a ++ x ∷ r) (b ++ y ∷ s) e) fronts, here, rests)

  -- where more stands in front, the shorter front begins it
  pub longer_parts : (a b : List X) (x y : X) (r s : List X) → a ++ x ∷ r ≡ b ++ y ∷ s → length a < length b → (more : List X) × (b ≡ a ++ x ∷ more)
  longer_parts a [] x y r s e less = absurd (omega (arith, less))
  longer_parts [] (w ∷ b) x y r s e less = (b, ap (λ h. h ∷ b) (sym (head_is x w r (b ++ y ∷ s) e)))
  longer_parts (z ∷ a) (w ∷ b) x y r s e less =
      let (more, is) = longer_parts a b x y r s (tail_is z w (a ++ x ∷ r) (b ++ y ∷ s) e) (omega (arith, less)) in
      (more, ap₂ (λ h l. h ∷ l) (sym (head_is z w (a ++ x ∷ r) (b ++ y ∷ s) e)) is)

  -- what stands in a list with one more is the last, or stood there before
  pub last_parts : (xs : List X) (x : X) (b : List X) (y : X) (r : List X) → xs ++ x ∷ [] ≡ b ++ y ∷ r → ((b ≡ xs) × (y ≡ x)) ⊎ ((more : List X) × (xs ≡ b ++ y ∷ more))
  last_parts [] x [] y r e = inl (refl, sym (head_is x y [] r e))
  last_parts [] x (z ∷ b) y r e = absurd (nothing b y r (tail_is x z [] (b ++ y ∷ r) e))
  last_parts (w ∷ xs) x [] y r e = inr (xs, ap (λ h. h ∷ xs) (head_is w y (xs ++ x ∷ []) r e))
  last_parts (w ∷ xs) x (z ∷ b) y r e =
      let same : w ≡ z = head_is w z (xs ++ x ∷ []) (b ++ y ∷ r) e in
      elim (last_parts xs x b y r (tail_is w z (xs ++ x ∷ []) (b ++ y ∷ r) e)) [
        | inl is ↦ inl (ap₂ (λ h l. h ∷ l) (sym same) is.0, is.1)
        | inr is ↦ inr (is.0, ap₂ (λ h l. h ∷ l) same is.1)
      ]

-- ---- going through a list: what was handed out, and what is left

pub none_left : {X : Type 0} (xs : List X) → length xs ≡ 0 → xs ≡ []
none_left [] long = refl
none_left (x ∷ xs) long = absurd (omega (arith, long))

module _ {X : Type 0} (gone old rest all : List X) (x : X) (steps : old ≡ x ∷ rest) (left : gone ++ old ≡ all) where
  pub left_more : (gone ++ x ∷ []) ++ rest ≡ all
  left_more = append_assoc gone (x ∷ []) rest ∙ ap (λ (l : List X). gone ++ l) (sym steps) ∙ left

  pub next_at : slice_get all (length gone) ≡ Some x
  next_at = ap (λ (l : List X). slice_get l (length gone)) (sym (ap (λ (l : List X). gone ++ l) (sym steps) ∙ left)) ∙ slice_at gone x rest

  pub next_within : length gone < length all
  next_within = slice_get_within all (length gone) x next_at

-- where the images fall apart, so do what they are images of
pub map_parts : {X Y : Type 0} (f : X → Y) (xs : List X) (ys : List Y) (z : Y) (zs : List Y) → map f xs ≡ ys ++ z ∷ zs → (a : List X) × (x : X) × (r : List X) × (xs ≡ a ++ x ∷ r) × (map f a ≡ ys) × (f x ≡ z)
map_parts f [] ys z zs e = absurd (nothing ys z zs e)
map_parts f (x ∷ xs) [] z zs e = ([], x, xs, refl, refl, head_is (f x) z (map f xs) zs e)
map_parts f (x ∷ xs) (y ∷ ys) z zs e =
    let (a, w, r, is, fronts, here) = map_parts f xs ys z zs (tail_is (f x) y (map f xs) (ys ++ z ∷ zs) e) in
    (x ∷ a, w, r, ap (λ l. x ∷ l) is, ap₂ (λ h l. h ∷ l) (head_is (f x) y (map f xs) (ys ++ z ∷ zs) e) fronts, here)

-- what stands in a list of images is the image of what stands there
pub mapped_at : {X Y : Type 0} (f : X → Y) (xs : List X) (i : ℕ) (y : Y) → slice_get (map f xs) i ≡ Some y → (x : X) × (slice_get xs i ≡ Some x) × (f x ≡ y)
mapped_at f [] i y e = absurd cc
mapped_at f (x ∷ xs) zero y e = (x, refl, same_Some (f x) y e)
mapped_at f (x ∷ xs) (suc i) y e = mapped_at f xs i y e
