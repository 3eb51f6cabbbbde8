-- With which refusal bytes do not open.
use Rattle.std.specs.Prelude.{◌≡◌, ◌≢◌, ℕ, ◌+◌, ◌<◌, List, [], ◌∷◌, ◌++◌, length, None, Some, Err}
use Rattle.keyed_seal.specs.Keys.{Entries, key_of}
use Rattle.byte_fields.specs.declared.fault.FormatFault.TheVariants as formats
use Rattle.stmt_codec.specs.Certificates.{Certificate, HasBodySpelling, IsWithinLimits}
use Rattle.stmt_codec.specs.Reading.{body_at}
use Rattle.sealed_cert.specs.declared.fault.SealFault.{SealFault}
use Rattle.sealed_cert.specs.declared.fault.SealFault.TheVariants.{Malformed, UnknownIssuer}
use Rattle.sealed_cert.specs.declared.fault.SealFault.TheVariants.{BadSeal, WrongKind, NoMemory}
use Rattle.keyed_seal.specs.declared.tag.TheConstants.{TAG_LEN}
use Rattle.sealed_cert.specs.declared.kind.TheConstants.{ISSUED, RELAYED}
use Rattle.sealed_cert.specs.Seals.{sealed_text, IsBadTag, Spells}

-- the bytes are c after the byte of a kind, within the limits, and a tail, whatever it is
pub record HasTail (kind : ℕ) (bytes : List ℕ) (c : Certificate) (tail : List ℕ) : Type 0 where
  pub text : bytes ≡ sealed_text kind c ++ tail
  pub numbers : HasBodySpelling c
  pub limits : IsWithinLimits c

-- bytes of a kind are malformed at an offset; those of the other kind are not looked at
pub data IsMalformedAt (kind other : ℕ) (bytes : List ℕ) (offset : ℕ) : Type 0 where
  -- there is no byte
  empty : bytes ≡ [] → offset ≡ 0 → IsMalformedAt kind other bytes offset
  -- the first byte is that of no kind
  no_kind : (first : ℕ) (rest : List ℕ) → bytes ≡ first ∷ rest → first ≢ kind → first ≢ other
      → offset ≡ 0 → IsMalformedAt kind other bytes offset
  -- no body is spelled after it
  no_body : (rest : List ℕ) → bytes ≡ kind ∷ rest
      → body_at bytes 1 ≡ Err (formats.Malformed offset) → IsMalformedAt kind other bytes offset
  -- the tag after the body is not whole
  short_tag : (c : Certificate) (tail : List ℕ) → HasTail kind bytes c tail
      → length tail < TAG_LEN → offset ≡ length bytes → IsMalformedAt kind other bytes offset
  -- bytes stand after the tag
  long_tag : (c : Certificate) (tail : List ℕ) → HasTail kind bytes c tail
      → TAG_LEN < length tail → offset ≡ length (sealed_text kind c) + TAG_LEN
      → IsMalformedAt kind other bytes offset

-- the first byte is that of the other kind
abbrev pub IsOfKind : ℕ → List ℕ → Type 0
IsOfKind other bytes = (rest : List ℕ) × (bytes ≡ other ∷ rest)

-- why bytes do not open under a relay's key, with this refusal
abbrev pub IsRefused : List ℕ → List ℕ → SealFault → Type 0
IsRefused key bytes (Malformed o) = IsMalformedAt RELAYED ISSUED bytes o
IsRefused key bytes (WrongKind k) = (k ≡ ISSUED) × IsOfKind ISSUED bytes
IsRefused key bytes (UnknownIssuer i) = ⊥
IsRefused key bytes BadSeal =
    (c : Certificate) × (tag : List ℕ) × Spells RELAYED bytes c tag
    × IsBadTag RELAYED key c tag
IsRefused key bytes NoMemory = ⊥

-- why bytes do not open under an issuer's key of a table, with this refusal
abbrev pub IsRefusedIssued : Entries → List ℕ → SealFault → Type 0
IsRefusedIssued entries bytes (Malformed o) = IsMalformedAt ISSUED RELAYED bytes o
IsRefusedIssued entries bytes (WrongKind k) = (k ≡ RELAYED) × IsOfKind RELAYED bytes
IsRefusedIssued entries bytes (UnknownIssuer i) =
    (c : Certificate) × (tag : List ℕ) × Spells ISSUED bytes c tag
    × (key_of entries c.issuer ≡ None) × (i ≡ c.issuer)
IsRefusedIssued entries bytes BadSeal =
    (c : Certificate) × (tag key : List ℕ) × Spells ISSUED bytes c tag
    × (key_of entries c.issuer ≡ Some key) × IsBadTag ISSUED key c tag
IsRefusedIssued entries bytes NoMemory = ⊥
