-- A list of at most two numbers.
use Rattle.std.proofs.Common.{◌≡◌, ◌⊎◌, inl, inr, ℕ, zero, suc, ◌<◌, [], ◌∷◌, ◌++◌, Option, Some, None, Contains, refl, ap, arith, lit<, get_or}
use Rattle.std.specs.Prelude.{option_to_list}
use Rattle.taos_calculus.specs.declared.line.Step.{Step}
use Rattle.taos_calculus.specs.Tidy.{premises_of}
use Rattle.term_pool.specs.Extract.{PremisesBelow}
use Rattle.std.proofs.lemmas.Option.{none-some, same_Some}

pub in_pair : (a b : Option ℕ) (i : ℕ) → Contains (option_to_list a ++ option_to_list b) i → (a ≡ Some i) ⊎ (b ≡ Some i)
in_pair None None i c = absurd (let h : c.0 < 0 = c.1 in omega arith)
in_pair (Some x) None i c = inl (ap (λ (z : ℕ). Some z) (go c.0 c.1 c.2))
  where
    go : (k : ℕ) → k < 1 → get_or (x ∷ []) k i ≡ i → x ≡ i
    go zero h e = e
    go (suc k) h e = absurd (omega arith)
in_pair None (Some y) i c = inr (ap (λ (z : ℕ). Some z) (go c.0 c.1 c.2))
  where
    go : (k : ℕ) → k < 1 → get_or (y ∷ []) k i ≡ i → y ≡ i
    go zero h e = e
    go (suc k) h e = absurd (omega arith)
in_pair (Some x) (Some y) i c = go c.0 c.1 c.2
  where
    go : (k : ℕ) → k < 2 → get_or (x ∷ y ∷ []) k i ≡ i → (Some x ≡ Some i) ⊎ (Some y ≡ Some i)
    go zero h e = inl (ap (λ (z : ℕ). Some z) e)
    go (suc zero) h e = inr (ap (λ (z : ℕ). Some z) e)
    go (suc (suc k)) h e = absurd (omega arith)

pub first_in : (a b : Option ℕ) (i : ℕ) → a ≡ Some i → Contains (option_to_list a ++ option_to_list b) i
first_in None b i e = absurd (none-some i e)
first_in (Some x) None i e = (0, lit< tt, same_Some x i e)
first_in (Some x) (Some y) i e = (0, lit< tt, same_Some x i e)

pub second_in : (a b : Option ℕ) (i : ℕ) → b ≡ Some i → Contains (option_to_list a ++ option_to_list b) i
second_in a None i e = absurd (none-some i e)
second_in None (Some y) i e = (0, lit< tt, same_Some y i e)
second_in (Some x) (Some y) i e = (1, lit< tt, same_Some y i e)

pub premises_below : (n : ℕ) (step : Step) → ((i : ℕ) → Contains (premises_of step) i → i < n) → PremisesBelow n step
premises_below n (Step.Chain i j) h = (h i (0, lit< tt, refl), h j (1, lit< tt, refl))
premises_below n (Step.Both i j) h = (h i (0, lit< tt, refl), h j (1, lit< tt, refl))
premises_below n (Step.Quote i j) h = (h i (0, lit< tt, refl), h j (1, lit< tt, refl))
premises_below n (Step.For i j) h = (h i (0, lit< tt, refl), h j (1, lit< tt, refl))
premises_below n (Step.Join i j) h = (h i (0, lit< tt, refl), h j (1, lit< tt, refl))
premises_below n (Step.Lift i j) h = (h i (0, lit< tt, refl), h j (1, lit< tt, refl))
premises_below n (Step.RoleUnder i) h = h i (0, lit< tt, refl)
premises_below n (Step.HandOff i) h = h i (0, lit< tt, refl)
premises_below n (Step.Delegate i) h = h i (0, lit< tt, refl)
premises_below n step h = tt
