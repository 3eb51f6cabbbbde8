-- Lists that a loop goes through, and whose items it changes one after the other.
use Rattle.std.proofs.Common.{◌≡◌, ℕ, zero, suc, ◌+◌, ◌<◌, ◌≤◌, List, [], ◌∷◌, length, add-one, map, get_or, set, refl, sym, ap, ◌∙◌, subst, arith}
use Rattle.std.specs.Prelude.{⊤, Result, Ok, Err, OnErr}
use Rattle.std.specs.List.{AllZip}
use Rattle.std.proofs.lemmas.List.{get_or-map, length-map, map-set}

-- the first items were changed so, and the others are as they were
abbrev pub Upto : {A : Type 0} → (A → A → Type 0) → ℕ → List A → List A → Type 0
Upto R zero xs ys = ys ≡ xs
Upto R (suc i) [] [] = ⊤
Upto R (suc i) (x ∷ xs) (y ∷ ys) = R x y × Upto R i xs ys
Upto R (suc i) _ _ = ⊥

module _ {A : Type 0} (R : A → A → Type 0) where
  -- one more is changed
  pub upto_next : (i : ℕ) (xs ys : List A) (y d : A) → Upto R i xs ys → i < length xs → R (get_or xs i d) y → Upto R (suc i) xs (set ys i y)
  upto_next zero [] ys y d u lt r = absurd (omega (arith, lt))
  upto_next zero (x ∷ xs) ys y d u lt r = subst (λ (l : List A). Upto R 1 (x ∷ xs) (set l 0 y)) (sym u) (r, refl)
  upto_next (suc i) [] ys y d u lt r = absurd (omega (arith, lt))
  upto_next (suc i) (x ∷ xs) [] y d u lt r = absurd u
  upto_next (suc i) (x ∷ xs) (z ∷ ys) y d u lt r = (u.0, upto_next i xs ys y d u.1 (omega (arith, lt)) r)

  -- what comes next is as it was
  pub upto_here : (i : ℕ) (xs ys : List A) (d : A) → Upto R i xs ys → get_or ys i d ≡ get_or xs i d
  upto_here zero xs ys d u = ap (λ (l : List A). get_or l 0 d) u
  upto_here (suc i) [] [] d u = refl
  upto_here (suc i) (x ∷ xs) (y ∷ ys) d u = upto_here i xs ys d u.1
  upto_here (suc i) [] (y ∷ ys) d u = absurd u
  upto_here (suc i) (x ∷ xs) [] d u = absurd u

  -- all are changed
  pub upto_end : (i : ℕ) (xs ys : List A) → Upto R i xs ys → length xs ≤ i → AllZip R xs ys
  upto_end zero [] ys u all = subst (λ (l : List A). AllZip R [] l) (sym u) tt
  upto_end zero (x ∷ xs) ys u all = absurd (omega (arith, all))
  upto_end (suc i) [] [] u all = tt
  upto_end (suc i) (x ∷ xs) (y ∷ ys) u all = (u.0, upto_end i xs ys u.1 (omega (arith, all)))
  upto_end (suc i) [] (y ∷ ys) u all = absurd u
  upto_end (suc i) (x ∷ xs) [] u all = absurd u

  pub upto_long : (i : ℕ) (xs ys : List A) → Upto R i xs ys → length ys ≡ length xs
  upto_long zero xs ys u = ap (λ (l : List A). length l) u
  upto_long (suc i) [] [] u = refl
  upto_long (suc i) (x ∷ xs) (y ∷ ys) u = ap suc (upto_long i xs ys u.1)
  upto_long (suc i) [] (y ∷ ys) u = absurd u
  upto_long (suc i) (x ∷ xs) [] u = absurd u

  -- where those that are as they were stand in another relation to themselves, all do
  pub upto_all : (Q : A → A → Type 0) → ((x y : A) → R x y → Q x y) → ((x : A) → Q x x) → (i : ℕ) (xs ys : List A) → Upto R i xs ys → AllZip Q xs ys
  upto_all Q go same zero xs ys u = subst (λ (l : List A). AllZip Q xs l) (sym u) (itself xs)
    where
      itself : (l : List A) → AllZip Q l l
      itself [] = tt
      itself (x ∷ l) = (same x, itself l)
  upto_all Q go same (suc i) [] [] u = tt
  upto_all Q go same (suc i) (x ∷ xs) (y ∷ ys) u = (go x y u.0, upto_all Q go same i xs ys u.1)
  upto_all Q go same (suc i) [] (y ∷ ys) u = absurd u
  upto_all Q go same (suc i) (x ∷ xs) [] u = absurd u

-- what holds at each place holds of the lists
pub each_place : {A B : Type 0} (R : B → B → Type 0) (f : A → B) (xs ys : List A) → length ys ≡ length xs → ((k : ℕ) (d : A) → k < length xs → R (f (get_or xs k d)) (f (get_or ys k d))) →
    AllZip R (map f xs) (map f ys)
each_place R f [] [] long each = tt
each_place R f (x ∷ xs) (y ∷ ys) long each = (each 0 x (omega arith), each_place R f xs ys (omega (arith, long)) (λ k d lt. each (suc k) d (omega (arith, lt))))
each_place R f [] (y ∷ ys) long each = absurd (omega (arith, long))
each_place R f (x ∷ xs) [] long each = absurd (omega (arith, long))

-- the next item is seen as it was at first
pub here_is : {A B : Type 0} (R : B → B → Type 0) (f : A → B) (i : ℕ) (xs ys : List A) (d : A) → Upto R i (map f xs) (map f ys) → i < length ys → f (get_or ys i d) ≡ get_or (map f xs) i (f d)
here_is R f i xs ys d u lt = sym (get_or-map f ys i d (f d) lt) ∙ upto_here R i (map f xs) (map f ys) (f d) u

-- one more item is changed in place, as its image is seen
pub upto_set : {A B : Type 0} (R : B → B → Type 0) (f : A → B) (i : ℕ) (xs ys : List A) (y d : A) → Upto R i (map f xs) (map f ys) → i < length ys → R (f (get_or ys i d)) (f y) →
    Upto R (i + 1) (map f xs) (map f (set ys i y))
upto_set R f i xs ys y d u lt r =
    let within : i < length (map f xs) = omega (arith, lt, upto_long R i (map f xs) (map f ys) u, length-map ys f) in
    subst (λ (n : ℕ). Upto R n (map f xs) (map f (set ys i y))) (sym (add-one i))
    (subst (λ (l : List _). Upto R (suc i) (map f xs) l) (sym (map-set f ys i y))
    (upto_next R i (map f xs) (map f ys) (f y) (f d) u within (subst (λ (b : _). R b (f y)) (here_is R f i xs ys d u lt) r)))

-- all items are
pub upto_done : {A B : Type 0} (R : B → B → Type 0) (f : A → B) (i : ℕ) (xs ys : List A) → Upto R i (map f xs) (map f ys) → length xs ≤ i → AllZip R (map f xs) (map f ys)
upto_done R f i xs ys u all = upto_end R i (map f xs) (map f ys) u (omega (arith, all, length-map xs f))

-- what holds holds at an error
pub at_error : {T E P : Type 0} (r : Result T E) → P → OnErr r P
at_error (Ok x) p = tt
at_error (Err e) p = p
