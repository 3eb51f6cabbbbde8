-- Numbers that are apart and below a bound are no more than the bound.
use Rattle.std.proofs.Common.{◌≡◌, ◌≢◌, ◌==◌, ◌<◌, ◌≤◌, ◌∙◌, ◌+◌, ℕ, zero, suc, Bool, not, cond, List, [], ◌∷◌, length, map, sym, ap, subst, refl, inl, inr, arith}
use Rattle.std.specs.List.{Contains, AllPairs, filter}
use Rattle.std.proofs.lemmas.Bool.Decides.{eqb_tells}
use Rattle.std.proofs.lemmas.List.Elements.{Contains-get_or}
use Rattle.std.proofs.lemmas.List.Kept.{AllPairs-cons, AllPairs-filter}
use Rattle.system_hub.proofs.Members.{no_member, member_cases, member_first, member_later, member_filter, apart_head, apart_tail}

abbrev without : ℕ → List ℕ → List ℕ
without m xs = filter (λ c. not (c == m)) xs

-- a filter leaves a list as long as it was where it has not the number, and else one shorter
length_without : (m : ℕ) (xs : List ℕ) → (Contains xs m → ⊥) → length (without m xs) ≡ length xs
length_without m [] none = refl
length_without m (x ∷ xs) none =
    elim (eqb_tells x m) [
      | inl same ↦ absurd (none (subst (λ (z : ℕ). Contains (x ∷ xs) z) same.1 (member_first x xs)))
      | inr away ↦
          ap {B = ℕ} (λ (b : Bool). length (cond (not b) (x ∷ without m xs) (without m xs))) away.0
          ∙ ap (λ (n : ℕ). suc n) (length_without m xs (λ h. none (member_later x xs m h)))
    ]

one_less : (m : ℕ) (xs : List ℕ) → AllPairs (λ a b. a ≢ b) xs → length xs ≤ length (without m xs) + 1
one_less m [] apart = omega arith
one_less m (x ∷ xs) apart =
    elim (eqb_tells x m) [
      | inl same ↦
          omega (
            arith,
            ap {B = ℕ} (λ (b : Bool). length (cond (not b) (x ∷ without m xs) (without m xs))) same.0,
            length_without m xs (subst (λ (z : ℕ). Contains xs z → ⊥) same.1 (apart_head x xs apart)),
          )
      | inr away ↦
          omega (
            arith,
            ap {B = ℕ} (λ (b : Bool). length (cond (not b) (x ∷ without m xs) (without m xs))) away.0,
            one_less m xs (apart_tail x xs apart),
          )
    ]

pub few_below : (n : ℕ) (xs : List ℕ) → AllPairs (λ a b. a ≢ b) xs → ((x : ℕ) → Contains xs x → x < n) → length xs ≤ n
few_below zero [] apart below = omega arith
few_below zero (x ∷ xs) apart below = absurd (omega (arith, below x (member_first x xs)))
few_below (suc n) xs apart below =
    omega (
      arith,
      one_less n xs apart,
      few_below n (without n xs) (AllPairs-filter (λ a b. a ≢ b) (λ c. not (c == n)) xs apart)
          (λ x h. let k = member_filter n xs x h in omega (arith, below x k.0, k.1)),
    )

-- the elements that a function gives are apart where it gives no two the same
pub member_map : (f : ℕ → ℕ) (xs : List ℕ) (y : ℕ) → Contains (map f xs) y → (x : ℕ) × Contains xs x × (f x ≡ y)
member_map f [] y h = absurd (no_member y h)
member_map f (x ∷ xs) y h =
    elim (member_cases (f x) (map f xs) y h) [
      | inl is ↦ (x, member_first x xs, is)
      | inr more ↦ let m = member_map f xs y more in (m.0, member_later x xs m.0 m.1, m.2)
    ]

pub apart_map : (f : ℕ → ℕ) (xs : List ℕ) → AllPairs (λ a b. a ≢ b) xs →
    ((x y : ℕ) → Contains xs x → Contains xs y → f x ≡ f y → x ≡ y) → AllPairs (λ a b. a ≢ b) (map f xs)
apart_map f [] apart once = λ i j d lt le. absurd (omega arith)
apart_map f (x ∷ xs) apart once =
    AllPairs-cons (λ a b. a ≢ b) (f x) (map f xs)
    (λ k d lt same.
    let m = member_map f xs (f x) (subst (λ (z : ℕ). Contains (map f xs) z) (sym same) (Contains-get_or (map f xs) k d lt)) in
    apart_head x xs apart (subst (λ (z : ℕ). Contains xs z)
    (once m.0 x (member_later x xs m.0 m.1) (member_first x xs) m.2) m.1))
    (apart_map f xs (apart_tail x xs apart) (λ y z hy hz e. once y z (member_later x xs y hy) (member_later x xs z hz) e))
