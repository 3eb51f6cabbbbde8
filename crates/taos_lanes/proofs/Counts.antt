-- Sums over lists, one item after the other.
use Rattle.std.proofs.Common.{◌≡◌, ℕ, ◌+◌, ◌*◌, ◌^◌, ◌<◌, ◌≤◌, Bool, true, false, List, length, map, take, get_or, refl, sym, ap, ap₂, ◌∙◌, arith, cond}
use mir.Val.{bool_byte}
use Rattle.std.specs.Prelude.{count_by, sum_by}
use Rattle.std.proofs.lemmas.List.{map_push, take_more}
use Rattle.std.proofs.lemmas.List.Sums.{sum_by_more, sum_by_push}

-- one item more adds less than 2 to the 64th
pub sum_more : {A : Type 0} (f : A → ℕ) (xs : List A) (i : ℕ) (x : A) (count n : ℕ) → i < length xs → x ≡ get_or xs i x → n ≡ f x → n < 2 ^ 64 → (count ≡ sum_by f (take i xs)) × (count ≤ i * 2 ^ 64) →
    (count + n ≡ sum_by f (take (i + 1) xs)) × (count + n ≤ (i + 1) * 2 ^ 64)
sum_more f xs i x count n lt is same small so_far = (
  ap₂ (λ (a b : ℕ). a + b) so_far.0 (same ∙ ap f is) ∙ sym (sum_by_more f xs i x lt),
  omega (arith, so_far.1, small),
)

-- a bit, as a number
bit_is : (b : Bool) → bool_byte b ≡ cond b 1 0
bit_is true = refl
bit_is false = refl

-- one item more is counted, or not
pub one_more : {A B : Type 0} (p : B → Bool) (g : A → B) (xs : List A) (i : ℕ) (x : A) (count : ℕ) (b : Bool) → i < length xs → x ≡ get_or xs i x → b ≡ p (g x) → (count ≡ count_by p (map g (take i xs))) × (count ≤ i) →
    (count + bool_byte b ≡ count_by p (map g (take (i + 1) xs))) × (count + bool_byte b ≤ i + 1)
one_more {A} {B} p g xs i x count b lt is same so_far = (
  ap (λ (n : ℕ). count + n) (bit_is b)
      ∙ (ap₂ (λ (a : ℕ) (c : Bool). a + cond c 1 0) so_far.0 (same ∙ ap (λ (y : A). p (g y)) is)
      ∙ (sym (sum_by_push (λ (y : B). cond (p y) 1 0) (map g (take i xs)) (g (get_or xs i x)))
      ∙ ap (count_by p) (sym (ap (map g) (take_more xs i x lt) ∙ map_push g (take i xs) (get_or xs i x))))),
  few b,
)
  where
    few : (c : Bool) → count + bool_byte c ≤ i + 1
    few true = omega (arith, so_far.1)
    few false = omega (arith, so_far.1)
