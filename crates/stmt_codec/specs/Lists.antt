-- Lists of certificates: a count, and each body behind its length.
use Rattle.std.specs.Prelude.{◌≡◌, ℕ, ◌+◌, ◌≤◌, List, ◌∷◌, ◌++◌, length, drop, take, All, Ok, Err}
use Rattle.std.specs.Prelude.{nat_lt, if◌then◌else◌}
use Rattle.std.specs.Int.{w16}
use Rattle.std.specs.List.{flat_map}
use Rattle.byte_fields.specs.Formats.{FormatReader, ended, u8_in, u16_in}
use Rattle.byte_fields.specs.Readers.{followed, made, counted as counted_items}
use Rattle.byte_fields.specs.Steps.{◌>>=◌, bytes_at, counted}
use Rattle.byte_fields.specs.declared.fault.FormatFault.TheVariants.{Malformed}
use Rattle.stmt_codec.specs.Certificates.{Certificate, body_spelling, FitsBody}
use Rattle.stmt_codec.specs.Reading.{body_at}

-- a certificate's body, after its length
unfoldable pub cert_bytes : Certificate → List ℕ
cert_bytes c = counted w16 (body_spelling c)

-- the certificates, after their count
abbrev pub cited_bytes : List Certificate → List ℕ
cited_bytes certs = length certs ∷ flat_map cert_bytes certs

-- The bytes from the offset on begin with the spelling of these certificates, each within the
-- limits, and at most so many.
pub record AreBodiesAt
    (most : ℕ) (bytes : List ℕ) (at : ℕ) (certs : List Certificate) : Type 0 where
  pub text : (rest : List ℕ) × (drop at bytes ≡ cited_bytes certs ++ rest)
  pub few : length certs ≤ most
  pub fit : All FitsBody certs

-- ---- reading

-- so many bytes stand there, and spell a body; faults are told by their offsets in all of the bytes
unfoldable pub body_filling : List ℕ → ℕ → FormatReader Certificate
body_filling bytes n at = do
  text ← bytes_at (ended bytes) n bytes at
  c ← body_at (take (at + n) bytes) at
  if nat_lt c.1 (at + n) then Err (Malformed c.1) else Ok (c.0, text.1)

-- a length, and a body that fills it
unfoldable pub cert_at : List ℕ → FormatReader Certificate
cert_at bytes = made (λ x. x.1) (followed (u16_in bytes) (λ n. body_filling bytes n))

-- at most so many certificates, after their count
unfoldable pub cited_at : ℕ → List ℕ → FormatReader (List Certificate)
cited_at most bytes = counted_items most Malformed (u8_in bytes) (λ _. cert_at bytes)
