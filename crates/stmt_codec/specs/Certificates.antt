-- Certificates, as mathematics has them, and the one spelling of their bodies.
use Rattle.std.specs.Prelude.{◌≡◌, ℕ, ◌<◌, ◌≤◌, ◌^◌, drop, List, [], ◌∷◌, ◌++◌, length, filter}
use Rattle.std.specs.Prelude.{Bool, ◌&&◌, ◌==◌, if◌then◌else◌, nat_le, nat_lt}
use Rattle.std.specs.Prelude.{Option, None, Some, IfSome}
use Rattle.std.specs.Option.{option_map}
use Rattle.std.specs.Int.{w32, w64, to_be_bytes}
use Rattle.sha2.specs.Sha256.{sha256}
use Rattle.prin_term.specs.declared.limits.TheConstants.{CERT_NODES, MAX_DEPTH}
use Rattle.prin_term.specs.Principal.{Principal, Key, Quoting, subterms, node_count, depth}
use Rattle.prin_term.specs.Principal.{spelling, HasSpelling}
use Rattle.byte_fields.specs.Steps.{optional}
use Rattle.prin_term.specs.View.{principal}
use Rattle.stmt_codec.specs.declared.body.CertBody.{CertBody}
use Rattle.stmt_codec.specs.declared.limits.TheConstants.{MAX_DISTINCT}
use Rattle.stmt_codec.specs.Distinct.{first_of_each}

-- who says that left speaks for right, from when on and until when
pub record Certificate : Type 0 where
  -- the key that says it
  pub issuer : ℕ
  -- whom the key quotes, if it quotes anybody
  pub quoted : Option Principal
  pub left : Principal
  pub right : Principal
  -- the moment at which it begins, in the unit of the service's clock; 0 where none is named
  pub from : ℕ
  -- the moment at which it ends
  pub until : ℕ
  -- tells certificates apart that are otherwise equal
  pub serial : ℕ

-- what a body of the program says, wherever its terms lie
abbrev pub certificate : CertBody → Certificate
certificate b = record {
  issuer = b.issuer;
  quoted = option_map principal b.quoted;
  left = principal b.statement.left;
  right = principal b.statement.right;
  from = b.from;
  until = b.until;
  serial = b.serial;
}

-- the issuer, which may quote a principal, says that left speaks for right, without a beginning
abbrev pub says : ℕ → Option Principal → Principal → Principal → ℕ → ℕ → Certificate
says issuer quoted left right until serial = record {
  issuer = issuer;
  quoted = quoted;
  left = left;
  right = right;
  from = 0;
  until = until;
  serial = serial;
}

-- the same, with this beginning
abbrev pub beginning : ℕ → Certificate → Certificate
beginning from c = record {
  issuer = c.issuer;
  quoted = c.quoted;
  left = c.left;
  right = c.right;
  from = from;
  until = c.until;
  serial = c.serial;
}

-- the key, or the key quoting another principal
abbrev pub key_quoting : ℕ → Option Principal → Principal
key_quoting key None = Key key
key_quoting key (Some quoted) = Quoting (Key key) quoted

-- who says it
abbrev pub speaker_of : Certificate → Principal
speaker_of c = key_quoting c.issuer c.quoted

-- version 1 has no beginning, version 2 has one, which is not 0
abbrev pub version_of : ℕ → ℕ
version_of from = if from == 0 then 1 else 2

-- the beginning, where there is one
abbrev pub from_bytes : ℕ → List ℕ
from_bytes from = if from == 0 then [] else to_be_bytes w64 from

-- the bytes of the body: its version, then the fields in their order, the numbers big-endian
abbrev pub body_spelling : Certificate → List ℕ
body_spelling c =
    version_of c.from ∷ [] ++ to_be_bytes w32 c.issuer ++ optional spelling c.quoted
    ++ spelling c.left ++ spelling c.right ++ from_bytes c.from ++ to_be_bytes w64 c.until
    ++ to_be_bytes w64 c.serial

-- the SHA-256 of the body's bytes
abbrev pub digest_of : Certificate → List ℕ
digest_of c = sha256 (body_spelling c)

-- every part of these principals, each once
abbrev pub distinct_parts : Principal → Principal → Principal → List Principal
distinct_parts speaker left right =
    first_of_each (subterms speaker ++ (subterms left ++ subterms right))

-- every part of speaker, left and right, each once
abbrev pub distinct_subterms : Certificate → List Principal
distinct_subterms c = distinct_parts (speaker_of c) c.left c.right

-- the limits of a principal in a certificate
abbrev pub IsSmall : Principal → Type 0
IsSmall t = (node_count t ≤ CERT_NODES) × (depth t ≤ MAX_DEPTH)

-- its principals are small, with few distinct subterms
pub record IsWithinLimits (c : Certificate) : Type 0 where
  pub quoted_fits : IfSome c.quoted IsSmall
  pub left_fits : IsSmall c.left
  pub right_fits : IsSmall c.right
  -- not too many distinct parts in all its terms
  pub few_subterms : length (distinct_subterms c) ≤ MAX_DISTINCT

-- the numbers fit their fields, so the certificate has a spelling
pub record HasBodySpelling (c : Certificate) : Type 0 where
  pub issuer : c.issuer < 2 ^ 32
  pub quoted : IfSome c.quoted HasSpelling
  pub left : HasSpelling c.left
  pub right : HasSpelling c.right
  pub from : c.from < 2 ^ 64
  pub until : c.until < 2 ^ 64
  pub serial : c.serial < 2 ^ 64

-- it has a spelling, and is within the limits
pub record FitsBody (c : Certificate) : Type 0 where
  pub numbers : HasBodySpelling c
  pub limits : IsWithinLimits c

-- The bytes from the offset on begin with the spelling of this certificate, which is within the
-- limits.
pub record IsBodyAt (bytes : List ℕ) (at : ℕ) (c : Certificate) : Type 0 where
  pub text : (rest : List ℕ) × (drop at bytes ≡ body_spelling c ++ rest)
  pub numbers : HasBodySpelling c
  pub limits : IsWithinLimits c

-- whether it is live at the moment
abbrev pub is_live : ℕ → Certificate → Bool
is_live moment c = nat_le c.from moment && nat_lt moment c.until

-- it has begun and has not ended at the moment
abbrev pub IsLive : ℕ → Certificate → Type 0
IsLive moment c = (c.from ≤ moment) × (moment < c.until)

-- whether it has ended at the moment
abbrev pub is_dead : ℕ → Certificate → Bool
is_dead moment c = nat_le c.until moment

-- it has ended at the moment, whether it ever began or not
abbrev pub IsDead : ℕ → Certificate → Type 0
IsDead moment c = c.until ≤ moment

-- it has neither begun nor ended at the moment
abbrev pub IsEarly : ℕ → Certificate → Type 0
IsEarly moment c = (moment < c.from) × (moment < c.until)

-- those that are live at the moment, in order
abbrev pub live : List Certificate → ℕ → List Certificate
live certs moment = filter (is_live moment) certs
