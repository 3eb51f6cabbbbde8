-- The front of a reply: what it says of the request that it answers, and of where that was.
use Rattle.std.specs.Prelude.{ℕ, List, Option, Some, None, Result, Ok, Err, ◌==◌}
use Rattle.std.specs.Prelude.{if◌then◌else◌}
use Rattle.std.specs.Option.{option_and_then}
use Rattle.byte_fields.specs.Formats.{u8_in, u32_in, u64_in}
use Rattle.byte_fields.specs.declared.fault.FormatFault.{FormatFault as WireFault}
use Rattle.taos_wire.specs.declared.reply_head.ReplyHead.{ReplyHead}
use Rattle.taos_wire.specs.Reply.{Reply, Denied, UnknownChannel, JournalFull, CommonsFull, WithdrawnFull}
use Rattle.taos_wire.specs.Reply.{status_of}

-- ---- of a reply

-- the shard that a reply names which is no grant
abbrev pub shard_in : Reply → Option ℕ
shard_in (Denied shard place link) = Some shard
shard_in (JournalFull which number len) = if which == 1 then Some number else None
shard_in (CommonsFull held shard) = Some shard
shard_in (WithdrawnFull held shard) = Some shard
shard_in _ = None

-- the place of the denial in the shard's journal
abbrev pub place_in : Reply → Option ℕ
place_in (Denied shard place link) = Some place
place_in _ = None

-- the channel that is unknown
abbrev pub unknown_in : Reply → Option ℕ
unknown_in (UnknownChannel number) = Some number
unknown_in _ = None

-- what the front of a reply to this number of the channel says
abbrev pub head_of : ℕ → ℕ → Reply → ReplyHead
head_of channel seq r = record {
  channel = channel;
  number = seq;
  status = status_of r;
  shard = shard_in r;
  place = place_in r;
  unknown = unknown_in r;
}

-- ---- of bytes

-- what was read, if anything was
abbrev pub read : {A : Type 0} → Result (A × ℕ) WireFault → Option A
read (Ok x) = Some x.0
read (Err f) = None

-- the shard that the fields of a status have
unfoldable pub shard_at : List ℕ → ℕ → Option ℕ
shard_at front status =
    if status == 1 then read (u32_in front 14)
    else (if status == 10 then option_and_then
    (λ which. if which == 1 then read (u32_in front 15) else None) (read (u8_in front 14))
    else (if status == 12 then read (u32_in front 15)
    else (if status == 14 then read (u32_in front 15) else None)))

-- what the front of some bytes says, if they begin as a reply does
unfoldable pub head_at : List ℕ → Option ReplyHead
head_at front =
    option_and_then (λ version. if version == 4 then
    option_and_then (λ channel.
    option_and_then (λ number.
    option_and_then (λ status. Some (record {
      channel = channel;
      number = number;
      status = status;
      shard = shard_at front status;
      place = if status == 1 then read (u64_in front 18) else None;
      unknown = if status == 3 then read (u32_in front 14) else None;
    })) (read (u8_in front 13))) (read (u64_in front 5))) (read (u32_in front 1))
    else None) (read (u8_in front 0))
