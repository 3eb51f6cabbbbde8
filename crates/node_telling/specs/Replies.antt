-- What the front of a reply says, of a grant too.
use Rattle.std.specs.Prelude.{ℕ, Bool, true, false, not, ◌&&◌, ◌==◌, ◌≡◌, ◌⊎◌, if◌then◌else◌, List, Option, Some, None}
use Rattle.byte_fields.specs.Formats.{u8_in, u32_in, u64_in}
use Rattle.node_telling.specs.declared.texts.reply.ReplyFront.{ReplyFront}
use Rattle.taos_wire.specs.Heads.{place_in, read, shard_in, unknown_in}
use Rattle.taos_wire.specs.Reply.{CertRefused, Denied, Early, Expired, Granted, LinkSent, Missing, NoEntry, Reply, status_of}
use Rattle.taos_wire.specs.declared.reply_head.ReplyHead.{ReplyHead}

-- ---- of a reply

-- the shard that a reply names
abbrev pub shard_named : Reply → Option ℕ
shard_named (Granted kept entry shard place proof certs result) = Some shard
shard_named r = shard_in r

-- the place of the grant or the denial in the shard's journal
abbrev pub place_named : Reply → Option ℕ
place_named (Granted kept entry shard place proof certs result) = Some place
place_named r = place_in r

-- the kind of a link: what ended, what lacks, no entry, or what has not begun
abbrev pub link_kind : LinkSent → ℕ
link_kind (Expired entry digest) = 1
link_kind (Missing entry part) = 2
link_kind NoEntry = 3
link_kind (Early entry digest) = 4

-- the kind of the link that a denial names
abbrev pub link_in : Reply → Option ℕ
link_in (Denied shard place link) = Some (link_kind link)
link_in r = None

-- why a certificate was refused
abbrev pub code_in : Reply → Option ℕ
code_in (CertRefused index code) = Some code
code_in r = None

-- whose request it answers, and where that stands in the shard's journal
abbrev pub told_by : ℕ → ℕ → Reply → ReplyHead
told_by channel seq r = record {
  channel = channel;
  number = seq;
  status = status_of r;
  shard = shard_named r;
  place = place_named r;
  unknown = unknown_in r;
}

-- what the front of a reply to this number of the channel says
abbrev pub front_by : ℕ → ℕ → Reply → ReplyFront
front_by channel seq r = record {
  head = told_by channel seq r;
  link = link_in r;
  code = code_in r;
}

-- the reply names a request: one that is sealed by nobody names none
abbrev pub is_named : ReplyHead → Bool
is_named head =
    if head.status == 2 then false
    else if head.status == 3 then false
    else if head.status == 4 then false
    else if head.status == 11 then not ((head.channel == 0) && (head.number == 0))
    else true

-- it stands for an entry of its object's journal: a ruling, or what was granted and done in part
abbrev pub IsEntry : ReplyHead → Type 0
IsEntry head =
    (head.status ≡ 0) ⊎ (head.status ≡ 1) ⊎ (head.status ≡ 12) ⊎ (head.status ≡ 13)
    ⊎ (head.status ≡ 14)

-- ---- of bytes

-- a head with what the bytes of a grant say
unfoldable pub with_grant : List ℕ → ReplyHead → ReplyHead
with_grant front head =
    if head.status == 0
    then record {
      channel = head.channel;
      number = head.number;
      status = head.status;
      shard = read (u32_in front 16);
      place = read (u64_in front 20);
      unknown = head.unknown;
    }
    else head

-- the kind of link that the bytes of a denial name
unfoldable pub link_at : List ℕ → ReplyHead → Option ℕ
link_at front head = if head.status == 1 then read (u8_in front 26) else None

-- the code that the bytes say by which a certificate was refused
unfoldable pub code_at : List ℕ → ReplyHead → Option ℕ
code_at front head = if head.status == 6 then read (u8_in front 15) else None

-- a head with all that the bytes say besides
abbrev pub front_with : List ℕ → ReplyHead → ReplyFront
front_with front head = record {
  head = with_grant front head;
  link = link_at front head;
  code = code_at front head;
}
