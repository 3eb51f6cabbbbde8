-- Tags compared byte by byte.
use Rattle.std.proofs.Common.{◌≡◌, ℕ, ◌+◌, ◌<◌, List, length, get_or, bit_xor, sym, ap, arith, ◌↔◌}
use Rattle.std.specs.Int.Bits.{bit_or, xor_self, xor_add_and}
use Rattle.std.proofs.lemmas.Nat.{le_or_l, le_or_r, and_le_l, and_le_r}
use Rattle.std.proofs.lemmas.Grind.{same_number_lists}

-- `differing` is 0 exactly where the bytes below i are the same in both
pub record AgreesBelow (made tag : List ℕ) (differing i : ℕ) : Type 0 where
  pub same : differing ≡ 0 → (k : ℕ) → k < i → get_or made k 0 ≡ get_or tag k 0
  pub none : made ≡ tag → differing ≡ 0

xor_none : (a b : ℕ) → bit_xor a b ≡ 0 → a ≡ b
xor_none a b none = omega (arith, none, xor_add_and a b, and_le_l a b, and_le_r a b)

-- one more pair: an `or` is 0 where both its sides are, and a `xor` where its sides are the same
pub agrees_more : (made tag : List ℕ) (differing i : ℕ) → AgreesBelow made tag differing i → AgreesBelow made tag (bit_or differing (bit_xor (get_or made i 0) (get_or tag i 0))) (i + 1)
agrees_more made tag differing i so_far = record { same = same; none = none }
  where
    a : ℕ
    a = get_or made i 0

    b : ℕ
    b = get_or tag i 0

    same : bit_or differing (bit_xor a b) ≡ 0 → (k : ℕ) → k < i + 1 → get_or made k 0 ≡ get_or tag k 0
    same e k below =
        let before : differing ≡ 0 = omega (arith, e, le_or_l differing (bit_xor a b)) in
        let here : a ≡ b = xor_none a b (omega (arith, e, le_or_r differing (bit_xor a b))) in
        grind (arith, so_far.same before k, here)

    none : made ≡ tag → bit_or differing (bit_xor a b) ≡ 0
    none e =
        let alike : a ≡ b = ap (λ (l : List ℕ). get_or l i 0) e in
        rw (so_far.none e, alike) (xor_self b)

-- all pairs
pub agrees_all : (made tag : List ℕ) (differing i : ℕ) → length tag ≡ length made → i ≡ length made → AgreesBelow made tag differing i → (differing ≡ 0) ↔ (tag ≡ made)
agrees_all made tag differing i long all so_far = (
  (λ e. sym (same_number_lists made tag (sym long) (λ k below. so_far.same e k (omega (arith, below, all))))),
  (λ same. so_far.none (sym same)),
)
