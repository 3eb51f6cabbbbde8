-- An object that is changed, in two lists that answer alike.
use Rattle.std.proofs.Common.{◌≡◌, ◌≢◌, ℕ, Bool, true, false, cond, eqb, List, [], ◌∷◌, map, Option, Some, None, refl, sym, ap, ◌∙◌, arith, inl, inr}
use Rattle.std.specs.Option.{option_map}
use Rattle.std.proofs.lemmas.Bool.{cases_eq, eqb-true}
use Rattle.std.proofs.lemmas.Bool.Decides.{nat_tests}
use Rattle.std.proofs.lemmas.Option.{same_Some}
use Rattle.std.proofs.lemmas.List.{length-map}
use Rattle.object_core.specs.Objects.{ObjectPlan, object_of}
use Rattle.node_file.specs.NodeLines.{changed_at, changed_if}
use Rattle.node_file.specs.Plans.{ChangesPlan, HoldsPlans}

module _ (n : ℕ) (f : ObjectPlan → ObjectPlan) (keeps : (p : ObjectPlan) → (f p).number ≡ p.number) where
  same_number : (p : ObjectPlan) → (changed_if n f p).number ≡ p.number
  same_number p = by (eqb p.number n)
    where
      by : (b : Bool) → (let q : ObjectPlan = cond b (f p) p in q.number) ≡ p.number
      by true = keeps p
      by false = refl

  changed_here : (p : ObjectPlan) → p.number ≡ n → changed_if n f p ≡ f p
  changed_here p is = let same : eqb p.number n ≡ true = grind (arith, nat_tests, is) in rw same refl

  changed_other : (p : ObjectPlan) → p.number ≢ n → changed_if n f p ≡ p
  changed_other p other = let same : eqb p.number n ≡ false = grind (arith, nat_tests, other) in rw same refl

  found : (q : ℕ) (p : ObjectPlan) (r s : Option ObjectPlan) (b : Bool) → s ≡ option_map (changed_if n f) r → cond b (Some (changed_if n f p)) s ≡ option_map (changed_if n f) (cond b (Some p) r)
  found q p r s true e = refl
  found q p r s false e = e

  pub object_of-changed : (plans : List ObjectPlan) (q : ℕ) → object_of (changed_at n f plans) q ≡ option_map (changed_if n f) (object_of plans q)
  object_of-changed [] q = refl
  object_of-changed (p ∷ plans) q =
      ap (λ k. cond (eqb k q) (Some (changed_if n f p)) (object_of (changed_at n f plans) q)) (same_number p)
      ∙ found q p (object_of plans q) (object_of (changed_at n f plans) q) (eqb p.number q) (object_of-changed plans q)

  -- what is found under a number has it
  pub has_number : (plans : List ObjectPlan) (q : ℕ) (p : ObjectPlan) → object_of plans q ≡ Some p → p.number ≡ q
  has_number [] q p e = absurd (cc e)
  has_number (x ∷ plans) q p e = by (eqb x.number q) refl e (λ later. has_number plans q p later)
    where
      by : (b : Bool) → eqb x.number q ≡ b → cond b (Some x) (object_of plans q) ≡ Some p → (object_of plans q ≡ Some p → p.number ≡ q) → p.number ≡ q
      by true is here rest = ap (λ (y : ObjectPlan). y.number) (sym (same_Some x p here)) ∙ eqb-true x.number q is
      by false is later rest = rest later

  mapped : (q : ℕ) (o : Option ObjectPlan) → ((p : ObjectPlan) → o ≡ Some p → p.number ≡ q) → q ≡ n → option_map (changed_if n f) o ≡ option_map f o
  mapped q None has is = refl
  mapped q (Some p) has is = ap (λ (x : ObjectPlan). Some x) (changed_here p (has p refl ∙ is))

  unmapped : (q : ℕ) (o : Option ObjectPlan) → ((p : ObjectPlan) → o ≡ Some p → p.number ≡ q) → q ≢ n → option_map (changed_if n f) o ≡ o
  unmapped q None has other = refl
  unmapped q (Some p) has other = ap (λ (x : ObjectPlan). Some x) (changed_other p (λ e. other (sym (has p refl) ∙ e)))

  pub changes_plan : (old new plans : List ObjectPlan) → HoldsPlans old plans → ChangesPlan old new n f → HoldsPlans new (changed_at n f plans)
  changes_plan old new plans held changes = record {
    each = λ q. elim (cases_eq q n) [
      | inl is ↦
          ap (object_of new) is ∙ changes.this_plan ∙ ap (option_map f) (held.each n)
          ∙ ap (λ k. option_map f (object_of plans k)) (sym is)
          ∙ sym (object_of-changed plans q ∙ mapped q (object_of plans q) (has_number plans q) is)
      | inr other ↦
          changes.other_plans q other ∙ held.each q
          ∙ sym (object_of-changed plans q ∙ unmapped q (object_of plans q) (has_number plans q) other)
    ];
    count = changes.count ∙ held.count ∙ sym (length-map plans (changed_if n f));
  }
