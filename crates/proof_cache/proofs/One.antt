-- A test that one element of a list passes, or none.
use Rattle.std.proofs.Common.{◌≡◌, Bool, true, false, not, inl, inr, List, [], ◌∷◌, ◌++◌, map, Some, None, refl, ap}
use Rattle.std.proofs.lemmas.Bool.{cases_Bool}
use Rattle.std.specs.List.{All, filter, find, list_any}
use Rattle.std.proofs.lemmas.List.Elements.{All-head, All-tail}

module _ {X : Type 0} (test : X → Bool) where
  abbrev Fails : X → Type 0
  Fails x = test x ≡ false

  -- ---- none passes

  pub found_none : (xs : List X) → All Fails xs → find test xs ≡ None
  found_none [] h = refl
  found_none (x ∷ xs) h = rw (All-head Fails x xs h) (found_none xs (All-tail Fails x xs h))

  pub any_none : (xs : List X) → All Fails xs → list_any test xs ≡ false
  any_none [] h = refl
  any_none (x ∷ xs) h = rw (All-head Fails x xs h) (any_none xs (All-tail Fails x xs h))

  pub passes_none : (xs : List X) → All Fails xs → filter test xs ≡ []
  passes_none [] h = refl
  passes_none (x ∷ xs) h = rw (All-head Fails x xs h) (passes_none xs (All-tail Fails x xs h))

  pub leaves_all : (xs : List X) → All Fails xs → filter (λ x. not (test x)) xs ≡ xs
  leaves_all [] h = refl
  leaves_all (x ∷ xs) h =
      rw (All-head Fails x xs h) (ap (λ ys. x ∷ ys) (leaves_all xs (All-tail Fails x xs h)))

  pub none_moved : (xs : List X) → All Fails xs →
      filter test xs ++ filter (λ x. not (test x)) xs ≡ xs
  none_moved xs h = rw (passes_none xs h) (leaves_all xs h)

  -- ---- one passes

  module _ (x : X) (passes : test x ≡ true) (after : List X) (rest : All Fails after) where
    pub found_one : (before : List X) → All Fails before → find test (before ++ x ∷ after) ≡ Some x
    found_one [] h = rw passes refl
    found_one (b ∷ bs) h = rw (All-head Fails b bs h) (found_one bs (All-tail Fails b bs h))

    pub any_one : (before : List X) → All Fails before → list_any test (before ++ x ∷ after) ≡ true
    any_one [] h = rw passes refl
    any_one (b ∷ bs) h = rw (All-head Fails b bs h) (any_one bs (All-tail Fails b bs h))

    pub passes_one : (before : List X) → All Fails before →
        filter test (before ++ x ∷ after) ≡ x ∷ []
    passes_one [] h = rw (passes, passes_none after rest) refl
    passes_one (b ∷ bs) h = rw (All-head Fails b bs h) (passes_one bs (All-tail Fails b bs h))

    pub leaves_others : (before : List X) → All Fails before →
        filter (λ y. not (test y)) (before ++ x ∷ after) ≡ before ++ after
    leaves_others [] h = rw (passes, leaves_all after rest) refl
    leaves_others (b ∷ bs) h =
        rw (All-head Fails b bs h) (ap (λ ys. b ∷ ys) (leaves_others bs (All-tail Fails b bs h)))

-- what is seen of those that pass is what passes of what is seen
pub filter-map : {X Y : Type 0} (f : X → Y) (test : Y → Bool) (xs : List X) →
    map f (filter (λ x. test (f x)) xs) ≡ filter test (map f xs)
filter-map f test [] = refl
filter-map f test (x ∷ xs) =
    let rest = filter-map f test xs in
    elim (cases_Bool (test (f x))) [
      | inl passes ↦ rw passes (ap (λ ys. f x ∷ ys) rest)
      | inr fails ↦ rw fails rest
    ]
