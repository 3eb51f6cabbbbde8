-- Opening bytes from left to right, with the first refusal that is met.
use Rattle.std.specs.Prelude.{ℕ, ◌+◌, ◌-◌, Bool, ◌==◌, if◌then◌else◌, nat_lt, List, length, take}
use Rattle.std.specs.Prelude.{drop, Option, Some, None, Result, Ok, Err}
use Rattle.std.specs.Str.{bytes_eq}
use Rattle.keyed_seal.specs.Keys.{Entries, key_of}
use Rattle.keyed_seal.specs.Tag.{tag_of}
use Rattle.byte_fields.specs.Steps.{◌>>=◌, with_fault, byte_at}
use Rattle.byte_fields.specs.declared.fault.FormatFault.{FormatFault}
use Rattle.byte_fields.specs.declared.fault.FormatFault.TheVariants as bodies
use Rattle.stmt_codec.specs.Certificates.{Certificate}
use Rattle.stmt_codec.specs.Reading.{body_at}
use Rattle.sealed_cert.specs.declared.fault.SealFault.{SealFault}
use Rattle.sealed_cert.specs.declared.fault.SealFault.TheVariants.{Malformed, UnknownIssuer}
use Rattle.sealed_cert.specs.declared.fault.SealFault.TheVariants.{BadSeal, WrongKind, NoMemory}
use Rattle.keyed_seal.specs.declared.tag.TheConstants.{TAG_LEN}
use Rattle.sealed_cert.specs.declared.kind.TheConstants.{ISSUED, RELAYED}

-- a body's fault, as a seal's
abbrev pub seen_as : FormatFault → SealFault
seen_as (bodies.Malformed o) = Malformed o
seen_as bodies.NoMemory = NoMemory

-- where the body begins, after the byte of the kind
unfoldable pub kind_at : ℕ → ℕ → List ℕ → Result ℕ SealFault
kind_at kind other bytes = do
  first ← byte_at (Malformed 0) bytes 0
  if first.0 == other then Err (WrongKind other)
      else (if first.0 == kind then Ok first.1 else Err (Malformed 0))

-- a tag is left, and nothing after it
unfoldable pub ends_in_tag : List ℕ → ℕ → Result ℕ SealFault
ends_in_tag bytes at =
    if nat_lt (length bytes - at) TAG_LEN then Err (Malformed (length bytes))
    else (if nat_lt (at + TAG_LEN) (length bytes) then Err (Malformed (at + TAG_LEN)) else Ok at)

-- the certificate whose body begins at an offset, whatever the tag behind it, and where that begins
unfoldable pub body_and_tag_at : List ℕ → ℕ → Result (Certificate × ℕ) SealFault
body_and_tag_at bytes at = do
  body ← with_fault seen_as (body_at bytes at)
  end ← ends_in_tag bytes body.1
  Ok (body.0, end)

-- the certificate of a kind, whatever its tag, and where its body ends; the other kind is refused
unfoldable pub body_of_kind : ℕ → ℕ → List ℕ → Result (Certificate × ℕ) SealFault
body_of_kind kind other bytes = kind_at kind other bytes >>= body_and_tag_at bytes

-- the bytes from an offset on are the tag of those before it
abbrev pub is_tagged : List ℕ → List ℕ → ℕ → Bool
is_tagged key bytes end = bytes_eq (drop end bytes) (tag_of key (take end bytes))

-- a certificate whose body ends at an offset, if the tag after it is right
abbrev pub checked : List ℕ → List ℕ → Certificate × ℕ → Result Certificate SealFault
checked key bytes x = if is_tagged key bytes x.1 then Ok x.0 else Err BadSeal

-- what a relay's seal opens to, or the refusal
unfoldable pub opened : List ℕ → List ℕ → Result Certificate SealFault
opened key bytes = body_of_kind RELAYED ISSUED bytes >>= checked key bytes

-- the issuer's key, or the refusal of an issuer without one
abbrev pub known : ℕ → Option (List ℕ) → Result (List ℕ) SealFault
known issuer (Some key) = Ok key
known issuer None = Err (UnknownIssuer issuer)

-- what an issuer's seal opens to, or the refusal
unfoldable pub opened_issued : Entries → List ℕ → Result Certificate SealFault
opened_issued entries bytes = do
  x ← body_of_kind ISSUED RELAYED bytes
  key ← known x.0.issuer (key_of entries x.0.issuer)
  checked key bytes x
