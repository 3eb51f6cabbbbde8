-- Replies as values, and the bytes of each.
use Rattle.std.specs.Prelude.{◌≡◌, ℕ, ◌<◌, ◌≤◌, ◌^◌, Bool, true, false, List, [], ◌∷◌, ◌++◌, length}
use Rattle.std.specs.Prelude.{All, Option, Some, None, replicate}
use Rattle.std.specs.Int.{w16, w32, w64, to_be_bytes}
use Rattle.keyed_seal.specs.Tag.{tag_of}
use Rattle.object_core.specs.Operation.{IsDigest}
use Rattle.prin_term.specs.declared.limits.TheConstants.{ENTRY_NODES}
use Rattle.prin_term.specs.Principal.{Principal, spelling as term_spelling}
use Rattle.prin_term.specs.Refusal.{FitsLimits}
use Rattle.byte_fields.specs.Steps.{IsByte, counted}
use Rattle.stmt_codec.specs.Certificates.{Certificate, FitsBody}
use Rattle.stmt_codec.specs.Lists.{cited_bytes}
use Rattle.taos_calculus.specs.Rules.{Line}
use Rattle.taos_calculus.specs.Spelling.{proof_bytes}
use Rattle.taos_calculus.specs.Spells.{IsProof}
use Rattle.taos_wire.specs.declared.reply.TheConstants.{MAX_CITED}
use Rattle.taos_wire.specs.Request.{Request, IsTag}

-- what a denial names: an entry, and the certificate that ended too early or begins too late, or the
-- part that nobody speaks for; or that no entry has the right
pub data LinkSent : Type 0 where
  Expired : (entry : ℕ) (digest : List ℕ) → LinkSent
  Missing : (entry : ℕ) (part : Principal) → LinkSent
  NoEntry : LinkSent
  Early : (entry : ℕ) (digest : List ℕ) → LinkSent

-- what is answered; a shard and a place are those of the journal entry that it was answered at
pub data Reply : Type 0 where
  -- `entry` is the list's entry that gives the right, by the proof and its certificates; `kept`
  -- tells that the proof was kept from an earlier request; `result` is what the operation gives
  Granted : (kept : Bool) (entry shard place : ℕ) (proof : List Line)
      (certs : List Certificate) (result : List ℕ) → Reply
  -- the live certificates do not give the right; the link names the first thing that is missing
  Denied : (shard place : ℕ) (link : LinkSent) → Reply
  -- the byte at the offset can't stand there
  Malformed : (offset : ℕ) → Reply
  -- the node has no key of this channel
  UnknownChannel : (number : ℕ) → Reply
  -- the request does not end in the tag of its channel's key
  BadSeal : Reply
  -- the channel had already come to this number
  Replayed : (last : ℕ) → Reply
  -- the certificate of this index was refused, for the reason that the code names
  CertRefused : (index code : ℕ) → Reply
  -- the channel holds this many certificates, and no more fit
  ChannelFull : (held : ℕ) → Reply
  -- the relay did not answer for the certificate of this index
  RelayFailed : (index : ℕ) → Reply
  -- the node has no object of this number
  UnknownObject : (number : ℕ) → Reply
  -- `which` is 0 for the journal of an object and 1 for that of a shard; `len` is its length
  JournalFull : (which number len : ℕ) → Reply
  -- out of memory
  NoMemory : Reply
  -- the shard holds this many certificates in common, and no more fit
  CommonsFull : (held shard : ℕ) → Reply
  -- no shard held the certificate with this digest
  NotHeld : (digest : List ℕ) → Reply
  -- the shard has this many withdrawn issuers, and no more fit
  WithdrawnFull : (held shard : ℕ) → Reply
  -- the channel's certificates could not be fetched; no reader reads it
  PullFailed : Reply

-- ---- bytes

-- 1 for true and 0 for false, as one byte
abbrev pub flag : Bool → ℕ
flag true = 1
flag false = 0

-- the byte that names a link, then what the link says besides
abbrev pub link_bytes : LinkSent → List ℕ
link_bytes (Expired entry digest) = 1 ∷ entry ∷ digest
link_bytes (Missing entry part) = 2 ∷ entry ∷ term_spelling part
link_bytes NoEntry = 3 ∷ []
link_bytes (Early entry digest) = 4 ∷ entry ∷ digest

-- the byte that names what kind of reply it is
abbrev pub status_of : Reply → ℕ
status_of (Granted kept entry shard place proof certs result) = 0
status_of (Denied shard place link) = 1
status_of (Malformed offset) = 2
status_of (UnknownChannel number) = 3
status_of BadSeal = 4
status_of (Replayed last) = 5
status_of (CertRefused index code) = 6
status_of (ChannelFull held) = 7
status_of (RelayFailed index) = 8
status_of (UnknownObject number) = 9
status_of (JournalFull which number len) = 10
status_of NoMemory = 11
status_of (CommonsFull held shard) = 12
status_of (NotHeld digest) = 13
status_of (WithdrawnFull held shard) = 14
status_of PullFailed = 15

-- what it says besides its status
abbrev pub fields_of : Reply → List ℕ
fields_of (Granted kept entry shard place proof certs result) =
    flag kept ∷ entry ∷ to_be_bytes w32 shard ++ to_be_bytes w64 place
    ++ proof_bytes proof ++ cited_bytes certs ++ counted w16 result
fields_of (Denied shard place link) =
    to_be_bytes w32 shard ++ to_be_bytes w64 place ++ link_bytes link
fields_of (Malformed offset) = to_be_bytes w32 offset
fields_of (UnknownChannel number) = to_be_bytes w32 number
fields_of BadSeal = []
fields_of (Replayed last) = to_be_bytes w64 last
fields_of (CertRefused index code) = index ∷ code ∷ []
fields_of (ChannelFull held) = held ∷ []
fields_of (RelayFailed index) = index ∷ []
fields_of (UnknownObject number) = to_be_bytes w32 number
fields_of (JournalFull which number len) = which ∷ to_be_bytes w32 number ++ to_be_bytes w64 len
fields_of NoMemory = []
fields_of (CommonsFull held shard) = held ∷ to_be_bytes w32 shard
fields_of (NotHeld digest) = digest
fields_of (WithdrawnFull held shard) = held ∷ to_be_bytes w32 shard
fields_of PullFailed = []

-- the version, then the channel and the number that are answered
abbrev pub answered_bytes : ℕ → ℕ → List ℕ
answered_bytes channel seq = 4 ∷ to_be_bytes w32 channel ++ to_be_bytes w64 seq

-- the one spelling of a reply to the number of a channel, up to the tag
unfoldable pub reply_text : ℕ → ℕ → Reply → List ℕ
reply_text channel seq r = answered_bytes channel seq ++ status_of r ∷ fields_of r

-- ---- limits

-- the entry is one byte, and the digest or the part is within the limits
abbrev pub FitsLink : LinkSent → Type 0
FitsLink (Expired entry digest) = IsByte entry × IsDigest digest
FitsLink (Missing entry part) = IsByte entry × FitsLimits ENTRY_NODES part
FitsLink NoEntry = Unit {0}
FitsLink (Early entry digest) = IsByte entry × IsDigest digest

-- the fields of a grant fit, and there are at most so many certificates
pub record FitsGranted (entry shard place : ℕ) (proof : List Line)
    (certs : List Certificate) (result : List ℕ) : Type 0 where
  pub entry_fits : IsByte entry
  pub shard_fits : shard < 2 ^ 32
  pub place_fits : place < 2 ^ 64
  pub proof_fits : IsProof proof
  pub few_certs : length certs ≤ MAX_CITED
  pub certs_fit : All FitsBody certs
  pub result_fits : (length result < 2 ^ 16) × All IsByte result

-- each number fits its field, and what the reply carries is within the limits; of a failed fetch
-- there is no reply that a reader reads
abbrev pub FitsReply : Reply → Type 0
FitsReply (Granted kept entry shard place proof certs result) =
    FitsGranted entry shard place proof certs result
FitsReply (Denied shard place link) = (shard < 2 ^ 32) × (place < 2 ^ 64) × FitsLink link
FitsReply (Malformed offset) = offset < 2 ^ 32
FitsReply (UnknownChannel number) = number < 2 ^ 32
FitsReply BadSeal = Unit {0}
FitsReply (Replayed last) = last < 2 ^ 64
FitsReply (CertRefused index code) = IsByte index × IsByte code
FitsReply (ChannelFull held) = IsByte held
FitsReply (RelayFailed index) = IsByte index
FitsReply (UnknownObject number) = number < 2 ^ 32
FitsReply (JournalFull which number len) = (which ≤ 1) × (number < 2 ^ 32) × (len < 2 ^ 64)
FitsReply NoMemory = Unit {0}
FitsReply (CommonsFull held shard) = IsByte held × (shard < 2 ^ 32)
FitsReply (NotHeld digest) = IsDigest digest
FitsReply (WithdrawnFull held shard) = IsByte held × (shard < 2 ^ 32)
FitsReply PullFailed = ⊥

-- the bytes are those of the reply to this number of the channel, under some tag
pub record SpellsReply (channel seq : ℕ) (r : Reply) (bytes : List ℕ) : Type 0 where
  pub channel_fits : channel < 2 ^ 32
  pub seq_fits : seq < 2 ^ 64
  pub limits : FitsReply r
  -- any 32 bytes after the text
  pub tag : List ℕ
  pub is_tag : IsTag tag
  pub text : bytes ≡ reply_text channel seq r ++ tag

-- ---- seals

-- a reply with the channel and the number that it answers, and the key that seals it, if any does
pub record Sent : Type 0 where
  -- the key that seals it, if any does
  pub key : Option (List ℕ)
  pub channel : ℕ
  pub seq : ℕ
  pub reply : Reply

-- a reply to this number of the channel, under the key if there is one
abbrev pub sent : Option (List ℕ) → ℕ → ℕ → Reply → Sent
sent key channel seq reply = record { key = key; channel = channel; seq = seq; reply = reply }

-- the reply to a request, under the channel's key
abbrev pub sealed : List ℕ → Request → Reply → Sent
sealed key r reply = sent (Some key) r.channel r.seq reply

-- the reply before a seal is checked: nothing of the request is believed, so channel and number
-- are 0
abbrev pub unsealed : Reply → Sent
unsealed reply = sent None 0 0 reply

-- the tag under the key, or 32 zeros
abbrev pub seal_of : Option (List ℕ) → List ℕ → List ℕ
seal_of (Some key) text = tag_of key text
seal_of None text = replicate 32 0

-- the text, then its tag
abbrev pub under_seal : Option (List ℕ) → List ℕ → List ℕ
under_seal key text = text ++ seal_of key text

-- the bytes that are sent, with their tag
abbrev pub spelling : Sent → List ℕ
spelling s = under_seal s.key (reply_text s.channel s.seq s.reply)
