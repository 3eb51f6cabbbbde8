-- Lists with one element changed.
use Rattle.std.proofs.Common.{◌≡◌, ℕ, zero, suc, ◌+◌, ◌<◌, ◌≤◌, List, [], ◌∷◌, length, get_or, set, Some, inl, inr, refl, sym, ap, ◌∙◌, subst, arith}
use Rattle.std.specs.List.{slice_get}
use Rattle.std.proofs.lemmas.Bool.{cases_lt}
use Rattle.std.proofs.lemmas.Option.{slice_get-get_or}

module _ {X : Type 0} where
  pub set_same : (xs : List X) (i : ℕ) (x : X) → i < length xs → slice_get (set xs i x) i ≡ Some x
  set_same [] i x lt = absurd (omega (arith, lt))
  set_same (y ∷ ys) zero x lt = refl
  set_same (y ∷ ys) (suc i) x lt = set_same ys i x (omega (arith, lt))

  pub set_other : (xs : List X) (i : ℕ) (x : X) (k : ℕ) → (k ≡ i → ⊥) → slice_get (set xs i x) k ≡ slice_get xs k
  set_other [] i x k ne = refl
  set_other (y ∷ ys) zero x zero ne = absurd (ne refl)
  set_other (y ∷ ys) zero x (suc k) ne = refl
  set_other (y ∷ ys) (suc i) x zero ne = refl
  set_other (y ∷ ys) (suc i) x (suc k) ne = set_other ys i x k (λ e. ne (ap suc e))

  -- a loop that goes over a list by places changed what is before the place, and nothing behind
  pub step_before : (P : X → X → Type 0) (initial xs : List X) (i : ℕ) (d new : X) → i < length xs → P (get_or xs i d) new →
      ((k : ℕ) (x y : X) → k < i → slice_get initial k ≡ Some x → slice_get xs k ≡ Some y → P x y) → ((k : ℕ) → i ≤ k → slice_get xs k ≡ slice_get initial k) →
      (k : ℕ) (x y : X) → k < i + 1 → slice_get initial k ≡ Some x → slice_get (set xs i new) k ≡ Some y → P x y
  step_before P initial xs i d new lt p before behind k x y within from to =
      elim (cases_lt k i) [
        | inl less ↦ before k x y less from (sym (set_other xs i new k (λ (e : k ≡ i). absurd (omega (arith, e, less)))) ∙ to)
        | inr le ↦ here (omega arith)
      ]
    where
      here : k ≡ i → P x y
      here e =
          let was : Some (get_or xs i d) ≡ Some x = sym (slice_get-get_or xs i d lt) ∙ behind i (omega arith) ∙ subst (λ j. slice_get initial j ≡ Some x) e from in
          let is : Some new ≡ Some y = sym (set_same xs i new lt) ∙ subst (λ j. slice_get (set xs i new) j ≡ Some y) e to in
          let same_old : get_or xs i d ≡ x = cc in
          let same_new : new ≡ y = cc in
          subst (λ z. P x z) same_new (subst (λ z. P z new) same_old p)

  pub step_behind : (initial xs : List X) (i : ℕ) (new : X) → ((k : ℕ) → i ≤ k → slice_get xs k ≡ slice_get initial k) → (k : ℕ) → i + 1 ≤ k → slice_get (set xs i new) k ≡ slice_get initial k
  step_behind initial xs i new behind k le = set_other xs i new k (λ (e : k ≡ i). absurd (omega (arith, e, le))) ∙ behind k (omega (arith, le))

  -- so the element at the place is still the first one
  pub still_there : (initial xs : List X) (i : ℕ) (d : X) → i < length xs → ((k : ℕ) → i ≤ k → slice_get xs k ≡ slice_get initial k) → length xs ≡ length initial → get_or initial i d ≡ get_or xs i d
  still_there initial xs i d lt behind long =
      let there : Some (get_or initial i d) ≡ Some (get_or xs i d) = sym (slice_get-get_or initial i d (omega (arith, lt, long))) ∙ sym (behind i (omega arith)) ∙ slice_get-get_or xs i d lt in
      cc
