-- Fields with the faults of formats: what is read is spelled so, and the other way.
use Rattle.std.proofs.Common.{◌≡◌, ℕ, ◌^◌, ◌<◌, ◌≤◌, true, List, [], ◌∷◌, refl, arith}
use Rattle.std.specs.Int.{w16, w32, w64, to_be_bytes}
use Rattle.std.proofs.lemmas.Bool.Decides.{nat_tests}
use Rattle.byte_fields.specs.declared.fault.FormatFault.TheVariants.{Malformed}
use Rattle.byte_fields.specs.Formats.{ended, u8_in, u16_in, u32_in, u64_in, is_within, within}
use Rattle.byte_fields.proofs.FieldLaws.{wide16, wide32, wide64}
use Rattle.byte_fields.proofs.ReaderLaws.{Reads, reads_byte, reads_number, reads_passing, reads_as}

pub within_is : (low high n : ℕ) → is_within low high n ≡ true → (low ≤ n) × (n ≤ high)
within_is low high n e = (grind (arith, nat_tests), grind (arith, nat_tests))

pub is_within-true : (low high n : ℕ) → low ≤ n → n ≤ high → is_within low high n ≡ true
is_within-true low high n above below = grind (arith, nat_tests)

module _ (bytes : List ℕ) where
  pub reads_u8 : Reads bytes (u8_in bytes) (λ b. b ∷ []) (λ b. b < 256)
  reads_u8 = reads_byte (ended bytes) bytes

  pub reads_u16 : Reads bytes (u16_in bytes) (to_be_bytes w16) (λ n. n < 2 ^ 16)
  reads_u16 = reads_number (ended bytes) w16 (2 ^ 16) wide16 bytes

  pub reads_u32 : Reads bytes (u32_in bytes) (to_be_bytes w32) (λ n. n < 2 ^ 32)
  reads_u32 = reads_number (ended bytes) w32 (2 ^ 32) wide32 bytes

  pub reads_u64 : Reads bytes (u64_in bytes) (to_be_bytes w64) (λ n. n < 2 ^ 64)
  reads_u64 = reads_number (ended bytes) w64 (2 ^ 64) wide64 bytes

  pub reads_u8_in : (low high : ℕ) → high < 256 → Reads bytes (within low high (u8_in bytes)) (λ b. b ∷ []) (λ b. (low ≤ b) × (b ≤ high))
  reads_u8_in low high lt =
      reads_as (λ b. b ∷ []) (λ b. (low ≤ b) × (b ≤ high)) (reads_passing (is_within low high) Malformed reads_u8)
      (λ n is. (within_is low high n is.1, refl))
      (λ n is. (omega (arith, is.1), is_within-true low high n is.0 is.1))
