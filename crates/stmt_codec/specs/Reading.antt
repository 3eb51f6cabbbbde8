-- Reading a body from left to right, with the first fault that is met.
use Rattle.std.specs.Prelude.{ℕ, ◌==◌, not, List, length, nat_le, if◌then◌else◌, Ok, Err}
use Rattle.prin_term.specs.declared.limits.TheConstants.{CERT_NODES}
use Rattle.prin_term.specs.Principal.{Principal}
use Rattle.byte_fields.specs.Steps.{◌>>=◌}
use Rattle.byte_fields.specs.declared.fault.FormatFault.TheVariants.{Malformed}
use Rattle.stmt_codec.specs.declared.limits.TheConstants.{MAX_DISTINCT}
use Rattle.stmt_codec.specs.Certificates.{Certificate, distinct_parts, key_quoting}
use Rattle.byte_fields.specs.Formats.{FormatReader, u8_in, u32_in, u64_in, within}
use Rattle.byte_fields.specs.Readers.{followed, made, given, passing}
use Rattle.prin_term.specs.TermFields.{term_in, optional_term_in}

-- the right term, after which there are not too many distinct subterms
unfoldable pub right_at : Principal → Principal → List ℕ → FormatReader Principal
right_at speaker left bytes at = do
  right ← term_in CERT_NODES bytes at
  if nat_le (length (distinct_parts speaker left right.0)) MAX_DISTINCT then Ok right
      else Err (Malformed right.1)

-- the beginning: none in a body of version 1; else a number, which is refused where it is 0
unfoldable pub from_at : ℕ → List ℕ → FormatReader ℕ
from_at version bytes at =
    if version == 1 then given 0 at else passing (λ n. not (n == 0)) Malformed (u64_in bytes) at

-- the certificate whose body begins at an offset, and the offset after it
unfoldable pub body_at : List ℕ → FormatReader Certificate
body_at bytes =
    made (λ x. record {
      issuer = x.1.0;
      quoted = x.1.1.0;
      left = x.1.1.1.0;
      right = x.1.1.1.1.0;
      from = x.1.1.1.1.1.0;
      until = x.1.1.1.1.1.1.0;
      serial = x.1.1.1.1.1.1.1;
    })
    (followed (within 1 2 (u8_in bytes))
    (λ version. followed (u32_in bytes)
    (λ issuer. followed (optional_term_in CERT_NODES bytes)
    (λ quoted. followed (term_in CERT_NODES bytes)
    (λ left. followed (right_at (key_quoting issuer quoted) left bytes)
    (λ _. followed (from_at version bytes)
    (λ _. followed (u64_in bytes)
    (λ _. u64_in bytes))))))))
