-- Domains that are gathered: the one at a place, and its change.
use Rattle.std.proofs.Common.{◌≡◌, ℕ, zero, suc, ◌+◌, ◌<◌, ◌≤◌, Bool, true, false, cond, eqb, ltb, not, List, [], ◌∷◌, ◌++◌, length, get_or, set, take, Option, Some, None, refl, sym, ap, subst, ◌∙◌, arith, inl, inr, ◌⊎◌}
use Rattle.std.specs.Prelude.{is_some, find}
use Rattle.std.specs.List.{AllZip, position, position_or_len}
use Rattle.std.proofs.lemmas.Bool.{cases_Bool, ltb-true, ltb-false}
use Rattle.std.proofs.lemmas.List.{take_more}
use Rattle.std.proofs.lemmas.Slice.Zip.{AllZip-long, all_zipped_more}
use Rattle.byte_fields.proofs.Results.{chosen}
use Rattle.relay_path.specs.Domains.{DomainKnows, domain_of}
use Rattle.relay_path.specs.PathFile.{changed}

module _ {X : Type 0} (Stands : X → DomainKnows → Type 0) (number : X → ℕ) (same : (x : X) (d : DomainKnows) → Stands x d → number x ≡ d.number) where
  abbrev has : ℕ → X → Bool
  has n x = eqb (number x) n

  -- the first of a number stands at this place
  pub record IsPlaced (xs : List X) (ds : List DomainKnows) (n place : ℕ) : Type 0 where
    pub below : place < length xs
    pub domain : DomainKnows
    pub is : domain_of ds n ≡ Some domain
    pub stands : (x : X) → Stands (get_or xs place x) domain
    -- whatever is put there stands for the domain, changed
    pub change : (y : X) (f : DomainKnows → DomainKnows) → Stands y (f domain) → AllZip Stands (set xs place y) (changed n f ds)

  later_placed : (x : X) (xs : List X) (d : DomainKnows) (ds : List DomainKnows) (n place : ℕ) → eqb d.number n ≡ false → Stands x d → IsPlaced xs ds n place → IsPlaced (x ∷ xs) (d ∷ ds) n (suc place)
  later_placed x xs d ds n place other first is = record {
    below = omega (arith, is.below);
    domain = is.domain;
    is = rw other is.is;
    stands = λ y. is.stands y;
    change = λ y f new. rw other (first, is.change y f new);
  }

  placed_later : (x : X) (xs : List X) (d : DomainKnows) (ds : List DomainKnows) (n place : ℕ) → eqb d.number n ≡ false → Stands x d → IsPlaced xs ds n place → IsPlaced (x ∷ xs) (d ∷ ds) n (1 + place)
  placed_later x xs d ds n place other first is = subst (IsPlaced (x ∷ xs) (d ∷ ds) n) (one_more place) (later_placed x xs d ds n place other first is)
    where
      one_more : (k : ℕ) → suc k ≡ 1 + k
      one_more k = omega arith

  placed_first : (x : X) (xs : List X) (d : DomainKnows) (ds : List DomainKnows) (n : ℕ) → eqb d.number n ≡ true → Stands x d → AllZip Stands xs ds → IsPlaced (x ∷ xs) (d ∷ ds) n 0
  placed_first x xs d ds n this first others = record {
    below = omega arith;
    domain = d;
    is = rw this refl;
    stands = λ y. first;
    change = λ y f new. rw this (new, others);
  }

  placed_at : (xs : List X) (ds : List DomainKnows) (n : ℕ) → AllZip Stands xs ds → position_or_len (has n) xs < length xs → IsPlaced xs ds n (position_or_len (has n) xs)
  placed_at [] ds n all below = absurd (omega (arith, below))
  placed_at (x ∷ xs) [] n all below = absurd all
  placed_at (x ∷ xs) (d ∷ ds) n (first, others) below = elim (cases_Bool (eqb (number x) n)) [
    | inl this ↦
        let at : position_or_len (has n) (x ∷ xs) ≡ 0 = rw this refl in
        subst (IsPlaced (x ∷ xs) (d ∷ ds) n) (sym at) (placed_first x xs d ds n (ap (λ (m : ℕ). eqb m n) (sym (same x d first)) ∙ this) first others)
    | inr other ↦
        let at : position_or_len (has n) (x ∷ xs) ≡ 1 + position_or_len (has n) xs = rw other refl in
        let within : position_or_len (has n) xs < length xs = omega (arith, below, at) in
        subst (IsPlaced (x ∷ xs) (d ∷ ds) n) (sym at)
        (placed_later x xs d ds n (position_or_len (has n) xs) (ap (λ (m : ℕ). eqb m n) (sym (same x d first)) ∙ other) first (placed_at xs ds n others within))
  ]

  pub placed : (xs : List X) (ds : List DomainKnows) (n place : ℕ) → AllZip Stands xs ds → position (has n) xs ≡ Some place → IsPlaced xs ds n place
  placed xs ds n place all e = elim (chosen (ltb (position_or_len (has n) xs) (length xs)) (Some (position_or_len (has n) xs)) None (Some place) e) [
    | inl there ↦
        let at : position_or_len (has n) xs ≡ place = cc there.1 in
        subst (IsPlaced xs ds n) at (placed_at xs ds n all (ltb-true _ _ there.0))
    | inr none ↦ absurd (cc (none.1))
  ]

  nowhere : (xs : List X) (ds : List DomainKnows) (n : ℕ) → AllZip Stands xs ds → length xs ≤ position_or_len (has n) xs → domain_of ds n ≡ None
  nowhere [] [] n all past = refl
  nowhere [] (d ∷ ds) n all past = absurd all
  nowhere (x ∷ xs) [] n all past = refl
  nowhere (x ∷ xs) (d ∷ ds) n (first, others) past = elim (cases_Bool (eqb (number x) n)) [
    | inl this ↦
        let at : position_or_len (has n) (x ∷ xs) ≡ 0 = rw this refl in
        absurd (omega (arith, at, past))
    | inr other ↦
        let at : position_or_len (has n) (x ∷ xs) ≡ 1 + position_or_len (has n) xs = rw other refl in
        let differs : eqb d.number n ≡ false = ap (λ (m : ℕ). eqb m n) (sym (same x d first)) ∙ other in
        rw differs (nowhere xs ds n others (omega (arith, at, past)))
  ]

  pub unplaced : (xs : List X) (ds : List DomainKnows) (n : ℕ) → AllZip Stands xs ds → position (has n) xs ≡ None → domain_of ds n ≡ None
  unplaced xs ds n all e = elim (chosen (ltb (position_or_len (has n) xs) (length xs)) (Some (position_or_len (has n) xs)) None None e) [
    | inl there ↦ absurd (cc (there.1))
    | inr none ↦ nowhere xs ds n all (ltb-false _ _ none.0)
  ]

-- ---- one after another

-- those at one place
pub zipped_at : {X Y : Type 0} (Stands : X → Y → Type 0) (xs : List X) (ys : List Y) (i : ℕ) (x : X) (y : Y) → AllZip Stands xs ys → i < length xs → Stands (get_or xs i x) (get_or ys i y)
zipped_at Stands [] ys i x y all below = absurd (omega (arith, below))
zipped_at Stands (a ∷ xs) [] i x y all below = absurd all
zipped_at Stands (a ∷ xs) (b ∷ ys) zero x y all below = all.0
zipped_at Stands (a ∷ xs) (b ∷ ys) (suc i) x y all below = zipped_at Stands xs ys i x y all.1 (omega (arith, below))

-- one more stands for the next
pub one_more : {X Y Z : Type 0} (Stands : X → Y → Type 0) (Made : Z → Y → Type 0) (xs : List X) (zs : List Z) (ys : List Y) (i : ℕ) (x : X) (y : Y) (z : Z) → AllZip Stands xs ys → i < length xs → Made z (get_or ys i y) → AllZip Made zs (take i ys)
    → AllZip Made (zs ++ z ∷ []) (take (i + 1) ys)
one_more Stands Made xs zs ys i x y z all below made before =
    let within : i < length ys = omega (arith, below, AllZip-long Stands xs ys all) in
    subst (AllZip Made (zs ++ z ∷ [])) (sym (take_more ys i y within)) (all_zipped_more Made zs (take i ys) z (get_or ys i y) before made)
