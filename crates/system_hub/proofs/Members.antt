-- Members of a list, and where they stand.
use Rattle.std.proofs.Common.{◌≡◌, ◌≢◌, ◌==◌, ◌++◌, ◌∙◌, ◌⊎◌, ℕ, zero, suc, Bool, not, cond, List, [], ◌∷◌, set, sym, ap, subst, refl, inl, inr, arith, Some}
use Rattle.std.specs.List.{Contains, AllPairs, filter, slice_get}
use Rattle.std.proofs.lemmas.Bool.Decides.{eqb_tells}
use Rattle.std.proofs.lemmas.List.Elements.{Contains-append_left, Contains-append_right, Contains-append_cases, Contains-push, Contains-push_cases}

pub some_is : {X : Type 0} {x y : X} → Some x ≡ Some y → x ≡ y
some_is e = cc e

pub cons_head : {X : Type 0} {x y : X} {xs ys : List X} → x ∷ xs ≡ y ∷ ys → x ≡ y
cons_head e = cc e

pub cons_tail : {X : Type 0} {x y : X} {xs ys : List X} → x ∷ xs ≡ y ∷ ys → xs ≡ ys
cons_tail e = cc e

pub no_member : {X : Type 0} (y : X) → Contains [] y → ⊥
no_member y h = omega (arith, h.1)

pub member_cases : {X : Type 0} (x : X) (xs : List X) (y : X) → Contains (x ∷ xs) y → (x ≡ y) ⊎ Contains xs y
member_cases x xs y h =
    elim (Contains-append_cases (x ∷ []) xs y h) [
      | inl first ↦
          elim (Contains-push_cases [] x y first) [
            | inl none ↦ absurd (no_member y none)
            | inr is ↦ inl is
          ]
      | inr rest ↦ inr rest
    ]

pub member_first : {X : Type 0} (x : X) (xs : List X) → Contains (x ∷ xs) x
member_first x xs = Contains-append_left (x ∷ []) xs x (Contains-push [] x)

pub member_later : {X : Type 0} (x : X) (xs : List X) (y : X) → Contains xs y → Contains (x ∷ xs) y
member_later x xs y h = Contains-append_right (x ∷ []) xs y h

-- a list splits at a member
pub member_split : {X : Type 0} (xs : List X) (y : X) → Contains xs y → (front behind : List X) × (xs ≡ front ++ y ∷ behind)
member_split [] y h = absurd (no_member y h)
member_split (x ∷ xs) y h =
    elim (member_cases x xs y h) [
      | inl is ↦ ([], xs, ap (λ z. z ∷ xs) is)
      | inr rest ↦ let s = member_split xs y rest in (x ∷ s.0, s.1, ap (λ zs. x ∷ zs) s.2)
    ]

pub split_member : {X : Type 0} (front behind : List X) (y : X) → Contains (front ++ y ∷ behind) y
split_member front behind y = Contains-append_right front (y ∷ behind) y (member_first y behind)

-- numbers that are apart
pub apart_head : (x : ℕ) (xs : List ℕ) → AllPairs (λ a b. a ≢ b) (x ∷ xs) → Contains xs x → ⊥
apart_head x xs apart h = apart zero (suc h.0) x (omega arith) (omega (arith, h.1)) (sym h.2)

pub apart_tail : (x : ℕ) (xs : List ℕ) → AllPairs (λ a b. a ≢ b) (x ∷ xs) → AllPairs (λ a b. a ≢ b) xs
apart_tail x xs apart = λ i j d lt le. apart (suc i) (suc j) d (omega arith) (omega arith)

-- what a filter keeps
pub filter_member : (client : ℕ) (xs : List ℕ) (y : ℕ) → Contains xs y → y ≢ client → Contains (filter (λ c. not (c == client)) xs) y
filter_member client [] y h differ = absurd (no_member y h)
filter_member client (x ∷ xs) y h differ =
    elim (eqb_tells x client) [
      | inl its ↦
          elim (member_cases x xs y h) [
            | inl is ↦ absurd (differ (sym is ∙ its.1))
            | inr rest ↦ subst (λ (b : Bool). Contains (cond (not b) (x ∷ filter (λ c. not (c == client)) xs) (filter (λ c. not (c == client)) xs)) y) (sym its.0) (filter_member client xs y rest differ)
          ]
      | inr other ↦
          subst (λ (b : Bool). Contains (cond (not b) (x ∷ filter (λ c. not (c == client)) xs) (filter (λ c. not (c == client)) xs)) y) (sym other.0)
          (elim (member_cases x xs y h) [
            | inl is ↦ subst (λ z. Contains (x ∷ filter (λ c. not (c == client)) xs) z) is (member_first x (filter (λ c. not (c == client)) xs))
            | inr rest ↦ member_later x (filter (λ c. not (c == client)) xs) y (filter_member client xs y rest differ)
          ])
    ]

pub member_filter : (client : ℕ) (xs : List ℕ) (y : ℕ) → Contains (filter (λ c. not (c == client)) xs) y → Contains xs y × (y ≢ client)
member_filter client [] y h = absurd (no_member y h)
member_filter client (x ∷ xs) y h =
    elim (eqb_tells x client) [
      | inl its ↦
          let rest = member_filter client xs y (subst (λ (b : Bool). Contains (cond (not b) (x ∷ filter (λ c. not (c == client)) xs) (filter (λ c. not (c == client)) xs)) y) its.0 h) in
          (member_later x xs y rest.0, rest.1)
      | inr other ↦
          elim (member_cases x (filter (λ c. not (c == client)) xs) y (subst (λ (b : Bool). Contains (cond (not b) (x ∷ filter (λ c. not (c == client)) xs) (filter (λ c. not (c == client)) xs)) y) other.0 h)) [
            | inl is ↦ (subst (λ z. Contains (x ∷ xs) z) is (member_first x xs), λ e. other.1 (is ∙ e))
            | inr more ↦ let rest = member_filter client xs y more in (member_later x xs y rest.0, rest.1)
          ]
    ]

-- who stands before another behind a filter stood before it
pub filter_split : (client : ℕ) (xs : List ℕ) (y : ℕ) (front behind : List ℕ) →
    filter (λ c. not (c == client)) xs ≡ front ++ y ∷ behind →
    (old_front old_behind : List ℕ) × (xs ≡ old_front ++ y ∷ old_behind) × ((z : ℕ) → Contains front z → Contains old_front z)
filter_split client [] y [] behind e = absurd (cc e)
filter_split client [] y (f ∷ front) behind e = absurd (cc e)
filter_split client (x ∷ xs) y front behind e =
    elim (eqb_tells x client) [
      | inl its ↦
          let s = filter_split client xs y front behind (subst (λ (b : Bool). cond (not b) (x ∷ filter (λ c. not (c == client)) xs) (filter (λ c. not (c == client)) xs) ≡ front ++ y ∷ behind) its.0 e) in
          (x ∷ s.0, s.1, ap (λ (zs : List ℕ). x ∷ zs) s.2, λ z h. member_later x s.0 z (s.3 z h))
      | inr other ↦ kept front (subst (λ (b : Bool). cond (not b) (x ∷ filter (λ c. not (c == client)) xs) (filter (λ c. not (c == client)) xs) ≡ front ++ y ∷ behind) other.0 e)
          (filter_split client xs y)
    ]
  where
    kept : (front : List ℕ) → x ∷ filter (λ c. not (c == client)) xs ≡ front ++ y ∷ behind →
        ((front behind : List ℕ) → filter (λ c. not (c == client)) xs ≡ front ++ y ∷ behind →
        (old_front old_behind : List ℕ) × (xs ≡ old_front ++ y ∷ old_behind) × ((z : ℕ) → Contains front z → Contains old_front z)) →
        (old_front old_behind : List ℕ) × (x ∷ xs ≡ old_front ++ y ∷ old_behind) × ((z : ℕ) → Contains front z → Contains old_front z)
    kept [] e step = ([], xs, ap (λ (z : ℕ). z ∷ xs) (cons_head e), λ z h. h)
    kept (f ∷ front) e step =
        let s = step front behind (cons_tail e) in (
          x ∷ s.0,
          s.1,
          ap (λ (zs : List ℕ). x ∷ zs) s.2,
          λ z h.
              elim (member_cases f front z h) [
                | inl is ↦ subst (λ (w : ℕ). Contains (x ∷ s.0) w) (cons_head e ∙ is) (member_first x s.0)
                | inr rest ↦ member_later x s.0 z (s.3 z rest)
              ],
        )

-- the element at a place of a list of which one was set
pub get_set_cases : {X : Type 0} (xs : List X) (k : ℕ) (x : X) (j : ℕ) (y : X) → slice_get (set xs k x) j ≡ Some y →
    ((j ≡ k) × (y ≡ x)) ⊎ ((j ≢ k) × (slice_get xs j ≡ Some y))
get_set_cases [] k x j y e = absurd (cc e)
get_set_cases (z ∷ xs) zero x zero y e = inl (refl, some_is (sym e))
get_set_cases (z ∷ xs) zero x (suc j) y e = inr (omega arith, e)
get_set_cases (z ∷ xs) (suc k) x zero y e = inr (omega arith, e)
get_set_cases (z ∷ xs) (suc k) x (suc j) y e =
    elim (get_set_cases xs k x j y e) [
      | inl h ↦ inl (ap (λ (n : ℕ). suc n) h.0, h.1)
      | inr h ↦ inr (λ same. h.0 (omega (arith, same)), h.1)
    ]

pub get_set_same : {X : Type 0} (xs : List X) (k : ℕ) (x y : X) → slice_get xs k ≡ Some y → slice_get (set xs k x) k ≡ Some x
get_set_same [] k x y e = absurd (cc e)
get_set_same (z ∷ xs) zero x y e = refl
get_set_same (z ∷ xs) (suc k) x y e = get_set_same xs k x y e

pub get_set_other : {X : Type 0} (xs : List X) (k j : ℕ) (x : X) → j ≢ k → slice_get (set xs k x) j ≡ slice_get xs j
get_set_other [] k j x differ = refl
get_set_other (z ∷ xs) zero zero x differ = absurd (differ refl)
get_set_other (z ∷ xs) zero (suc j) x differ = refl
get_set_other (z ∷ xs) (suc k) zero x differ = refl
get_set_other (z ∷ xs) (suc k) (suc j) x differ = get_set_other xs k j x (λ same. differ (ap (λ (n : ℕ). suc n) same))

pub get_one : {X : Type 0} (xs : List X) (k : ℕ) (x y : X) → slice_get xs k ≡ Some x → slice_get xs k ≡ Some y → x ≡ y
get_one xs k x y e f = some_is (sym e ∙ f)
