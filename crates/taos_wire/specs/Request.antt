-- Requests as values, and the bytes of each.
use Rattle.std.specs.Prelude.{◌≡◌, ℕ, ◌≤◌, ◌<◌, ◌^◌, List, ◌∷◌, ◌++◌, length, All, Option}
use Rattle.std.specs.Prelude.{IfSome, Some}
use Rattle.std.specs.List.{flat_map}
use Rattle.std.specs.Int.{w16, w32, w64, to_be_bytes}
use Rattle.keyed_seal.specs.Keys.{Entries, key_of}
use Rattle.keyed_seal.specs.declared.tag.TheConstants.{TAG_LEN}
use Rattle.keyed_seal.specs.Tag.{tag_of}
use Rattle.object_core.specs.Operation.{Op, FitsOperation}
use Rattle.object_core.specs.Spelling.{kind_of, op_fields}
use Rattle.prin_term.specs.declared.limits.TheConstants.{QUOTED_NODES}
use Rattle.prin_term.specs.Principal.{Principal, spelling}
use Rattle.prin_term.specs.Refusal.{FitsLimits}
use Rattle.byte_fields.specs.Steps.{IsByte, AreBytes, counted, optional}
use Rattle.stmt_codec.specs.Certificates.{key_quoting}
use Rattle.taos_wire.specs.declared.request.TheConstants.{MAX_CERTS}

-- what a channel asks; a certificate is bytes here, which are not opened yet
pub record Request : Type 0 where
  pub channel : ℕ
  -- the request's number in the channel's order
  pub seq : ℕ
  -- the principal that the channel quotes, if it quotes one
  pub quoted : Option Principal
  pub object : ℕ
  pub op : Op
  pub certs : List (List ℕ)

-- who asks: the channel's key, or that key quoting
abbrev pub subject_of : Request → Principal
subject_of r = key_quoting r.channel r.quoted

-- ---- bytes

-- the certificates after their count, each after its length
abbrev pub certs_bytes : List (List ℕ) → List ℕ
certs_bytes certs = length certs ∷ flat_map (counted w16) certs

-- the version, the channel, the number, and who is quoted, after a byte that says whether
-- anybody is
abbrev pub origin_bytes : ℕ → ℕ → Option Principal → List ℕ
origin_bytes channel seq quoted =
    3 ∷ to_be_bytes w32 channel ++ to_be_bytes w64 seq ++ optional spelling quoted

-- the operation's name, the object, and the operation's fields
abbrev pub asked_bytes : ℕ → Op → List ℕ
asked_bytes object op = kind_of op ∷ to_be_bytes w32 object ++ op_fields op

-- the one spelling of a request, up to the tag
abbrev pub request_text : Request → List ℕ
request_text r =
    origin_bytes r.channel r.seq r.quoted ++ asked_bytes r.object r.op ++ certs_bytes r.certs

-- ---- limits

-- the bytes of a certificate, whose length fits 16 bits
abbrev pub IsCertText : List ℕ → Type 0
IsCertText text = (length text < 2 ^ 16) × All IsByte text

-- the request's numbers fit their fields, and what it carries is within the limits
pub record FitsRequest (r : Request) : Type 0 where
  pub channel : r.channel < 2 ^ 32
  pub seq : r.seq < 2 ^ 64
  pub quoted : IfSome r.quoted (FitsLimits QUOTED_NODES)
  pub object : r.object < 2 ^ 32
  pub op : FitsOperation r.op
  pub few_certs : length r.certs ≤ MAX_CERTS
  pub certs : All IsCertText r.certs

-- ---- seals

-- any bytes as long as a tag
abbrev pub IsTag : List ℕ → Type 0
IsTag tag = AreBytes TAG_LEN tag

-- the bytes are those of the request, which is within the limits, under some tag
pub record Spells (r : Request) (bytes : List ℕ) : Type 0 where
  pub limits : FitsRequest r
  pub tag : List ℕ
  pub is_tag : IsTag tag
  pub text : bytes ≡ request_text r ++ tag

-- the bytes of a request under the tag of a key
abbrev pub sealed : List ℕ → Request → List ℕ
sealed key r = request_text r ++ tag_of key (request_text r)

-- the bytes end in the tag, under the key, of those before it
pub record IsSealed (key bytes : List ℕ) : Type 0 where
  pub text : List ℕ
  -- the text, then its tag
  pub whole : bytes ≡ text ++ tag_of key text

-- the payload is this request, under the seal of its channel's key, which is one of these
pub record IsAsked (channels : Entries) (payload : List ℕ) (r : Request)
    (key : List ℕ) : Type 0 where
  pub spelled : Spells r payload
  pub keyed : key_of channels r.channel ≡ Some key
  pub seal : IsSealed key payload
