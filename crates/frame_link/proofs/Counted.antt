-- Counts that went up, one after the other.
use Rattle.std.proofs.Common.{◌≡◌, ◌⊎◌, ℕ, ◌+◌, ◌-◌, ◌^◌, ◌<◌, ◌≤◌, min, inl, inr, ◌∙◌, arith}
use Rattle.std.proofs.Math.Nat.{min-eq_left, min-eq_right}
use Rattle.std.proofs.lemmas.Bool.{cases_lt}
use Rattle.frame_link.specs.Plan.{counted, HasCounted}

pub counted_none : (n : ℕ) → HasCounted 0 n n
counted_none n = inl (omega arith)

pub counted_one : (n m : ℕ) → m ≡ counted n → HasCounted 1 n m
counted_one n m is = elim (cases_lt n (2 ^ 64 - 1)) [
  | inl few ↦ inl (is ∙ min-eq_left (omega (arith, few)))
  | inr many ↦ inr (omega (arith, is, min-eq_right {n = 2 ^ 64 - 1} {m = n + 1} (omega (arith, many))))
]

pub counted_both : (i j a b c : ℕ) → HasCounted i a b → HasCounted j b c → HasCounted (i + j) a c
counted_both i j a b c (inl x) (inl y) = inl (omega (arith, x, y))
counted_both i j a b c (inr x) (inl y) = inr (omega (arith, x, y))
counted_both i j a b c x (inr y) = inr y
