-- Reading a request from left to right, with the first fault that is met.
use Rattle.std.specs.Prelude.{ℕ, List, length, Result, Ok, Err, nat_lt, if◌then◌else◌}
use Rattle.std.specs.Int.{w16}
use Rattle.keyed_seal.specs.declared.tag.TheConstants.{TAG_LEN}
use Rattle.object_core.specs.Operation.{Op}
use Rattle.object_core.specs.Reading.{kind_at, fields_at}
use Rattle.prin_term.specs.declared.limits.TheConstants.{QUOTED_NODES}
use Rattle.byte_fields.specs.Readers.{followed, made, counted}
use Rattle.byte_fields.specs.Steps.{◌>>=◌, bytes_at, counted_at}
use Rattle.byte_fields.specs.declared.fault.FormatFault.{FormatFault as WireFault}
use Rattle.byte_fields.specs.declared.fault.FormatFault.TheVariants.{Malformed}
use Rattle.taos_wire.specs.declared.request.TheConstants.{MAX_CERTS}
use Rattle.byte_fields.specs.Formats.{FormatReader, ended, u8_in, u32_in, u64_in, within}
use Rattle.prin_term.specs.TermFields.{optional_term_in}
use Rattle.taos_wire.specs.Request.{Request}

-- ---- who asks

-- the version, the channel and the number
unfoldable pub origin_at : List ℕ → FormatReader (ℕ × ℕ)
origin_at bytes =
    made (λ x. x.1)
    (followed (within 3 3 (u8_in bytes))
    (λ _. followed (u32_in bytes) (λ _. u64_in bytes)))

-- ---- what is asked

-- the operation's name, the object, and the operation's fields
unfoldable pub asked_at : List ℕ → FormatReader (ℕ × Op)
asked_at bytes =
    made (λ x. x.1)
    (followed (kind_at bytes)
    (λ kind. followed (u32_in bytes) (λ _. fields_at bytes kind)))

-- ---- certificates

-- the bytes of a certificate, after their length
unfoldable pub cert_at : List ℕ → FormatReader (List ℕ)
cert_at bytes = counted_at (ended bytes) w16 bytes

-- the certificates, after their count
unfoldable pub certs_at : List ℕ → FormatReader (List (List ℕ))
certs_at bytes = counted MAX_CERTS Malformed (u8_in bytes) (λ _. cert_at bytes)

-- ---- the whole

-- the bytes of a tag
unfoldable pub tag_at : List ℕ → FormatReader (List ℕ)
tag_at bytes = bytes_at (ended bytes) TAG_LEN bytes

-- the request, and its tag
unfoldable pub request_at : List ℕ → FormatReader (Request × List ℕ)
request_at bytes =
    made (λ x. (
      record {
        channel = x.0.0;
        seq = x.0.1;
        quoted = x.1.0;
        object = x.1.1.0.0;
        op = x.1.1.0.1;
        certs = x.1.1.1.0;
      },
      x.1.1.1.1,
    ))
    (followed (origin_at bytes)
    (λ _. followed (optional_term_in QUOTED_NODES bytes)
    (λ _. followed (asked_at bytes)
    (λ _. followed (certs_at bytes)
    (λ _. tag_at bytes)))))

-- the request that the bytes spell, or the fault: nothing stands after the tag. The clauses of
-- `read_request` pin it to `Spells`, which does not read
unfoldable pub request_of : List ℕ → Result Request WireFault
request_of bytes = do
  x ← request_at bytes 0
  if nat_lt x.1 (length bytes) then Err (Malformed x.1) else Ok x.0.0
