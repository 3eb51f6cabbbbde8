-- Input that ends inside a body is refused at its end.
use Rattle.std.proofs.Common.{◌≡◌, ℕ, zero, suc, ◌^◌, ◌<◌, ◌≤◌, List, ◌++◌, length, drop, Err, refl, arith, true, ap, ◌∙◌, length-append}
use Rattle.std.specs.Prelude.{◌==◌, not}
use Rattle.std.specs.Int.{w32, w64, to_be_bytes}
use Rattle.prin_term.specs.Principal.{Principal, spelling}
use Rattle.prin_term.specs.TermFields.{seen_as}
use Rattle.prin_term.proofs.TermReaders.{reads_term, reads_optional_term}
use Rattle.byte_fields.specs.Formats.{ended, u64_in}
use Rattle.byte_fields.specs.declared.fault.FormatFault.TheVariants.{Malformed}
use Rattle.byte_fields.proofs.FieldLaws.{wide32, wide64}
use Rattle.byte_fields.proofs.FormatFields.{reads_u8_in, reads_u32, reads_u64}
use Rattle.stmt_codec.specs.Certificates.{Certificate, body_spelling, from_bytes, key_quoting, FitsBody, IsWithinLimits, HasBodySpelling}
use Rattle.stmt_codec.specs.Reading.{right_at, from_at, body_at}
use Rattle.stmt_codec.proofs.Beginnings.{BeginsBy, begins_some, none_is, some_is}
use Rattle.stmt_codec.proofs.Bodies.{IsRight, of_parts, parts_fit, parts_of, reads_from, reads_right}
use Rattle.stmt_codec.proofs.Cuts.{Lacks, lacks_byte, lacks_followed, lacks_made, lacks_number, lacks_optional, lacks_passing, lacks_term}

module _ (bytes : List ℕ) where
  right_lacks : (speaker left : Principal) → Lacks bytes (ended bytes) (right_at speaker left bytes) spelling (IsRight speaker left)
  unfolding right_at
  right_lacks speaker left = record { at_end = λ at t m le fits e some. rw ((lacks_term seen_as 64 bytes).at_end at t m le fits.0 e some) refl }

  u64_lacks : Lacks bytes (ended bytes) (u64_in bytes) (to_be_bytes w64) (λ n. n < 2 ^ 64)
  u64_lacks = lacks_number (ended bytes) w64 (2 ^ 64) wide64 bytes

  -- version 1 spells none, so no byte of it can lack
  none_lacks : (at n : ℕ) (m : List ℕ) → BeginsBy 1 n → from_bytes n ≡ drop at bytes ++ m → 0 < length m → from_at 1 bytes at ≡ Err (ended bytes)
  none_lacks at n m fits e some = absurd (omega (arith, ap length e, ap (λ (k : ℕ). length (from_bytes k)) (none_is n fits), length-append (drop at bytes) m, some))

  some_lacks : (at n : ℕ) (m : List ℕ) → at ≤ length bytes → BeginsBy 2 n → from_bytes n ≡ drop at bytes ++ m → 0 < length m → from_at 2 bytes at ≡ Err (ended bytes)
  unfolding from_at
  some_lacks at n m le fits e some =
      let parts = begins_some n fits in
      (lacks_passing (λ k. not (k == 0)) Malformed u64_lacks (λ k (is : (k < 2 ^ 64) × (not (k == 0) ≡ true)). is.0)).at_end at n m le parts ((some_is n parts).1 ∙ e) some

  from_lacks : (version : ℕ) → (1 ≤ version) × (version ≤ 2) → Lacks bytes (ended bytes) (from_at version bytes) from_bytes (BeginsBy version)
  from_lacks zero within = absurd (omega (arith, within.0))
  from_lacks (suc zero) within = record { at_end = λ at n m le fits e some. none_lacks at n m fits e some }
  from_lacks (suc (suc zero)) within = record { at_end = some_lacks }
  from_lacks (suc (suc (suc k))) within = absurd (omega (arith, within.1))

  body_lacks : Lacks bytes (ended bytes) (body_at bytes) body_spelling FitsBody
  unfolding body_at
  body_lacks =
      lacks_made _ parts_of body_spelling FitsBody
      (lacks_followed (reads_u8_in bytes 1 2 (omega arith)) (lacks_passing _ Malformed (lacks_byte (ended bytes) bytes) (λ n is. omega (arith, is.1)))
      (λ version within. lacks_followed (reads_u32 bytes) (lacks_number (ended bytes) w32 (2 ^ 32) wide32 bytes)
      (λ issuer _. lacks_followed (reads_optional_term bytes 64) (lacks_optional (ended bytes) Malformed (lacks_term seen_as 64 bytes))
      (λ quoted _. lacks_followed (reads_term seen_as 64 bytes) (lacks_term seen_as 64 bytes)
      (λ left _. lacks_followed (reads_right (key_quoting issuer quoted) left bytes) (right_lacks (key_quoting issuer quoted) left)
      (λ _ _. lacks_followed (reads_from version within bytes) (from_lacks version within)
      (λ _ _. lacks_followed (reads_u64 bytes) u64_lacks (λ _ _. u64_lacks))))))))
      parts_fit of_parts

pub body_cut : (bytes more : List ℕ) (at : ℕ) (c : Certificate) → at ≤ length bytes → HasBodySpelling c → IsWithinLimits c → body_spelling c ≡ drop at bytes ++ more → 0 < length more → body_at bytes at ≡ Err (Malformed (length bytes))
body_cut bytes more at c le has limits e some = (body_lacks bytes).at_end at c more le (record { numbers = has; limits = limits }) e some
