-- A block masked byte by byte.
use Rattle.std.proofs.Common.{◌≡◌, ℕ, ◌+◌, ◌<◌, List, length, get_or, set, bit_xor, sym, ◌∙◌, arith}
use Rattle.std.proofs.lemmas.List.{get_or-map, length-map}
use Rattle.std.proofs.lemmas.List.Edits.{fill_by_more}
use Rattle.std.proofs.lemmas.Grind.{same_number_lists, common_steps}
use Rattle.keyed_seal.specs.Tag.{masked}

-- the bytes of `out` below i are those of the block, masked
pub record IsMaskedBelow (block : List ℕ) (pad : ℕ) (out : List ℕ) (i : ℕ) : Type 0 where
  pub same_length : length out ≡ length block
  pub done : (k : ℕ) → k < i → get_or out k 0 ≡ bit_xor (get_or block k 0) pad

-- one more byte
pub masked_more : (block : List ℕ) (pad : ℕ) (out : List ℕ) (i : ℕ) → i < length block → IsMaskedBelow block pad out i → IsMaskedBelow block pad (set out i (bit_xor (get_or block i 0) pad)) (i + 1)
masked_more block pad out i below so_far = record {
  same_length = grind (arith, common_steps, so_far.same_length);
  done = fill_by_more (λ k. bit_xor (get_or block k 0) pad) out i 0 (omega (arith, so_far.same_length)) so_far.done;
}

-- all bytes
pub masked_all : (block : List ℕ) (pad : ℕ) (out : List ℕ) (i : ℕ) → i ≡ length block → IsMaskedBelow block pad out i → out ≡ masked block pad
masked_all block pad out i all so_far =
    same_number_lists out (masked block pad) (so_far.same_length ∙ sym (length-map block (λ byte. bit_xor byte pad))) (λ k below.
    so_far.done k (omega (arith, so_far.same_length)) ∙ sym (get_or-map (λ byte. bit_xor byte pad) block k 0 0 (omega (arith, so_far.same_length))))
