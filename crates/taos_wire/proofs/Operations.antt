-- The fields of a request: what is read is spelled so, and the other way.
use Rattle.std.proofs.Common.{◌≡◌, ℕ, ◌^◌, ◌<◌, ◌≤◌, List, ◌∷◌, ◌++◌, length, refl, sym, ap, arith}
use Rattle.std.specs.Prelude.{All}
use Rattle.std.specs.Int.{w16, w32, w64, to_be_bytes}
use Rattle.keyed_seal.specs.declared.tag.TheConstants.{TAG_LEN}
use Rattle.object_core.specs.declared.operation.TheConstants.{LAST_KIND}
use Rattle.object_core.specs.Operation.{Op, FitsOperation}
use Rattle.object_core.specs.Spelling.{kind_of, op_fields}
use Rattle.object_core.proofs.Operations.{kind_within, reads_fields}
use Rattle.byte_fields.specs.declared.fault.FormatFault.TheVariants.{Malformed}
use Rattle.byte_fields.specs.Formats.{ended}
use Rattle.byte_fields.specs.Steps.{counted}
use Rattle.byte_fields.proofs.FieldLaws.{wide16}
use Rattle.byte_fields.proofs.FieldReaders.{reads_counted_bytes}
use Rattle.byte_fields.proofs.FormatFields.{reads_u8, reads_u32, reads_u64, reads_u8_in}
use Rattle.byte_fields.proofs.ReaderLaws.{Reads, reads_bytes, reads_followed, reads_made, reads_each}
use Rattle.taos_wire.specs.declared.request.TheConstants.{MAX_CERTS}
use Rattle.taos_wire.specs.Request.{certs_bytes, IsCertText, IsTag}
use Rattle.taos_wire.specs.RequestReading.{origin_at, asked_at, cert_at, certs_at, tag_at}

module _ (bytes : List ℕ) where
  -- ---- who asks

  pub reads_origin : Reads bytes (origin_at bytes) (λ p. 3 ∷ (to_be_bytes w32 p.0 ++ to_be_bytes w64 p.1)) (λ p. (p.0 < 2 ^ 32) × (p.1 < 2 ^ 64))
  unfolding origin_at
  reads_origin =
      reads_made (λ (x : ℕ × (ℕ × ℕ)). x.1) (λ (p : ℕ × ℕ). (3, p)) (λ p. 3 ∷ (to_be_bytes w32 p.0 ++ to_be_bytes w64 p.1)) (λ p. (p.0 < 2 ^ 32) × (p.1 < 2 ^ 64))
      (reads_followed (reads_u8_in bytes 3 3 (omega arith)) (λ _ _. reads_followed (reads_u32 bytes) (λ _ _. reads_u64 bytes)))
      (λ x is.
      let three : x.0 ≡ 3 = omega (arith, is.0) in
      ((is.1.0, is.1.1), ap (λ (k : ℕ). k ∷ (to_be_bytes w32 x.1.0 ++ to_be_bytes w64 x.1.1)) three))
      (λ p is. (((omega arith, omega arith), (is.0, is.1)), refl, refl))

  -- ---- what is asked

  pub reads_asked : Reads bytes (asked_at bytes) (λ p. kind_of p.1 ∷ (to_be_bytes w32 p.0 ++ op_fields p.1)) (λ p. (p.0 < 2 ^ 32) × FitsOperation p.1)
  unfolding asked_at
  reads_asked =
      reads_made (λ (x : ℕ × (ℕ × Op)). x.1) (λ (p : ℕ × Op). (kind_of p.1, p)) (λ p. kind_of p.1 ∷ (to_be_bytes w32 p.0 ++ op_fields p.1)) (λ p. (p.0 < 2 ^ 32) × FitsOperation p.1)
      (reads_followed (reads_u8_in bytes 1 LAST_KIND (omega arith)) (λ kind low_high. reads_followed (reads_u32 bytes) (λ _ _. reads_fields bytes kind low_high)))
      (λ x is. ((is.1.0, is.1.1.0), ap (λ (k : ℕ). k ∷ (to_be_bytes w32 x.1.0 ++ op_fields x.1.1)) (sym is.1.1.1)))
      (λ p is. ((kind_within p.1, (is.0, (is.1, refl))), refl, refl))

  -- ---- certificates, and the tag

  pub reads_certs : Reads bytes (certs_at bytes) certs_bytes (λ xs. (length xs ≤ MAX_CERTS) × All IsCertText xs)
  unfolding certs_at cert_at
  reads_certs = reads_each MAX_CERTS 256 Malformed (counted w16) IsCertText (omega arith) (reads_u8 bytes) (reads_counted_bytes (ended bytes) w16 (2 ^ 16) wide16 bytes)

  pub reads_tag : Reads bytes (tag_at bytes) (λ tag. tag) IsTag
  unfolding tag_at
  reads_tag = reads_bytes (ended bytes) TAG_LEN bytes
