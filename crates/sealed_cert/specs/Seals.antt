-- Sealed certificates: a front, as the byte of a kind, a body, and the tag of both, which ends the
-- bytes.
use Rattle.std.specs.Prelude.{◌≡◌, ◌≢◌, ℕ, List, [], ◌∷◌, ◌++◌, length, Some}
use Rattle.keyed_seal.specs.Keys.{Entries, key_of}
use Rattle.keyed_seal.specs.Tag.{tag_of}
use Rattle.stmt_codec.specs.Certificates.{Certificate, body_spelling, HasBodySpelling}
use Rattle.stmt_codec.specs.Certificates.{IsWithinLimits}
use Rattle.keyed_seal.specs.declared.tag.TheConstants.{TAG_LEN}
use Rattle.sealed_cert.specs.declared.kind.TheConstants.{ISSUED, RELAYED}

-- what is sealed, after a front
abbrev pub text_after : List ℕ → Certificate → List ℕ
text_after front c = front ++ body_spelling c

-- the one sealed form of a certificate after a front, under a key
abbrev pub sealed_after : List ℕ → List ℕ → Certificate → List ℕ
sealed_after front key c = text_after front c ++ tag_of key (text_after front c)

-- the bytes are a front, c, within the limits, and as many more as a tag has, whichever they are
pub record SpellsAfter (front bytes : List ℕ) (c : Certificate) (tag : List ℕ) : Type 0 where
  pub text : bytes ≡ text_after front c ++ tag
  -- the tag has its whole length
  pub whole_tag : length tag ≡ TAG_LEN
  pub numbers : HasBodySpelling c
  pub limits : IsWithinLimits c

-- the bytes are the sealed form of c after a front, and c is within the limits
pub record IsSealedAfter (front key bytes : List ℕ) (c : Certificate) : Type 0 where
  pub text : bytes ≡ sealed_after front key c
  pub numbers : HasBodySpelling c
  pub limits : IsWithinLimits c

-- what is sealed as one of a kind
abbrev pub sealed_text : ℕ → Certificate → List ℕ
sealed_text kind c = text_after (kind ∷ []) c

-- the one sealed form of a certificate of a kind, under a key
abbrev pub sealed : ℕ → List ℕ → Certificate → List ℕ
sealed kind key c = sealed_after (kind ∷ []) key c

-- the bytes are c, after the byte of a kind, and as many more as a tag has
abbrev pub Spells : ℕ → List ℕ → Certificate → List ℕ → Type 0
Spells kind bytes c tag = SpellsAfter (kind ∷ []) bytes c tag

-- the tag is not that of c, of a kind, under the key
abbrev pub IsBadTag : ℕ → List ℕ → Certificate → List ℕ → Type 0
IsBadTag kind key c tag = tag ≢ tag_of key (sealed_text kind c)

-- the bytes are the sealed form of c, of a kind
abbrev pub IsSealed : ℕ → List ℕ → List ℕ → Certificate → Type 0
IsSealed kind key bytes c = IsSealedAfter (kind ∷ []) key bytes c

-- a relay's seal, under the key that it shares with the node
abbrev pub Opens : List ℕ → List ℕ → Certificate → Type 0
Opens key bytes c = IsSealed RELAYED key bytes c

-- the issuer's seal, under the key that a table has for it
pub record OpensIssued (entries : Entries) (bytes : List ℕ) (c : Certificate) : Type 0 where
  pub key : List ℕ
  pub known : key_of entries c.issuer ≡ Some key
  pub seal : IsSealed ISSUED key bytes c
