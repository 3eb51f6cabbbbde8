-- What the input of `replay` brings.
use Rattle.std.proofs.Common.{◌≡◌, ◌⊎◌, ℕ, ◌+◌, ◌≤◌, List, length, Option, arith, inl, inr}
use Rattle.std.specs.Io.KnownBytes.{Consumes, IsAtEnd}
use Rattle.node_journals.specs.Replaying.{Brings}
use Rattle.node_journals.specs.declared.replay.TheConstants.{MAX_JOURNALS}

-- all of the input, or one byte more than are judged
pub all_brought : (in0 in1 : Option (List ℕ)) (bytes : List ℕ) → Consumes in0 in1 bytes → IsAtEnd in1 ⊎ (length bytes ≡ MAX_JOURNALS + 1) → length bytes ≤ MAX_JOURNALS + 1 → Brings in0 in1 bytes
all_brought in0 in1 bytes read whole few = record {
  read = read;
  whole = elim whole [ inl end ↦ inl end | inr more ↦ inr (omega (arith, more)) ];
  few = few;
}
