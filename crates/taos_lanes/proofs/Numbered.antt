-- The object of a number.
use Rattle.std.proofs.Common.{◌≡◌, ◌≢◌, ℕ, zero, suc, ◌<◌, true, false, eqb, List, [], ◌∷◌, length, Some, get_or, slice_get, refl, sym, ap, subst, ◌∙◌, arith}
use Rattle.std.proofs.lemmas.Bool.Decides.{nat_tests}
use Rattle.std.proofs.lemmas.Option.{same_Some}
use Rattle.object_core.specs.Shelving.{HaveOwnNumbers, ObjectFixed, fixed_at, numbers_of}

own_test : (fs : List ObjectFixed) (g f : ObjectFixed) → (g.plan.number ≢ f.plan.number) → fixed_at (g ∷ fs) f.plan.number ≡ fixed_at fs f.plan.number
own_test fs g f other = let no : eqb g.plan.number f.plan.number ≡ false = grind (arith, nat_tests, other) in rw no refl

number_at : (fs : List ObjectFixed) (i : ℕ) (f : ObjectFixed) → slice_get fs i ≡ Some f → (i < length (numbers_of fs)) × ((d : ℕ) → get_or (numbers_of fs) i d ≡ f.plan.number)
number_at [] i f at = absurd cc
number_at (g ∷ fs) zero f at = (omega arith, λ d. ap (λ (x : ObjectFixed). x.plan.number) (same_Some g f at))
number_at (g ∷ fs) (suc i) f at = let r = number_at fs i f at in (omega (arith, r.0), r.1)

-- what has a number of its own is found by it
pub found_by_number : (fs : List ObjectFixed) → HaveOwnNumbers fs → (i : ℕ) (f : ObjectFixed) → slice_get fs i ≡ Some f → fixed_at fs f.plan.number ≡ Some f
found_by_number [] own i f at = absurd cc
found_by_number (g ∷ fs) own zero f at =
    let one : g ≡ f = same_Some g f at in
    let yes : eqb f.plan.number f.plan.number ≡ true = grind (arith, nat_tests) in
    subst (λ (x : ObjectFixed). fixed_at (x ∷ fs) f.plan.number ≡ Some f) (sym one) (rw yes refl)
found_by_number (g ∷ fs) own (suc i) f at =
    let there = number_at fs i f at in
    let other : g.plan.number ≢ f.plan.number = subst (λ (k : ℕ). g.plan.number ≢ k) (there.1 0) (own 0 (suc i) 0 (omega arith) (omega (arith, there.0))) in
    own_test fs g f other ∙ found_by_number fs (λ j k d lt below. own (suc j) (suc k) d (omega (arith, lt)) (omega (arith, below))) i f at
