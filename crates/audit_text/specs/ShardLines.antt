-- The text of a shard's journal.
use Rattle.std.specs.Prelude.{ℕ, ◌==◌, if◌then◌else◌, codes, length, List, ◌++◌}
use Rattle.std.specs.Fmt.{decimal}
use Rattle.hex.specs.Hex.{encode_lower}
use Rattle.agent_core.specs.declared.told.DropCause.{DropCause}
use Rattle.agent_core.specs.declared.told.DropCause.TheVariants.{NotHeld, Lapsed}
use Rattle.agent_core.specs.declared.told.Told.{Told}
use Rattle.agent_core.specs.declared.told.Told.TheVariants.{Replayed, Full, Hit, Miss, Kept, Dropped, Held, CommonsFull, Removed, WithdrawnFull}
use Rattle.agent_core.specs.Journals.{Entry}
use Rattle.agent_core.specs.State.{Ask, Event, Asks, Keeps, Holds, Discards, Forgets, Expires, Withdraws}
use Rattle.audit_text.specs.Lines.{front, line, numbered, text_of}

-- a right by its word, or by its number where it has none
abbrev pub right_text : ℕ → List ℕ
right_text right =
    if right == 1 then codes "read"
    else if right == 2 then codes "write"
    else if right == 4 then codes "control"
    else if right == 8 then codes "manage"
    else decimal right

-- an Ask: of what is presented the count
abbrev pub ask_text : Ask → List ℕ
ask_text a =
    numbered (codes "ask channel") a.channel ++ numbered (codes " seq") a.seq
    ++ numbered (codes " reading") a.reading
    ++ numbered (codes " certificates") (length a.presented)
    ++ codes " right " ++ right_text a.right

-- a proof that is to be kept: the place of its Ask, the entry of the Ask's list, and its lease
abbrev pub keep_text : (ask entry lease : ℕ) → List ℕ
keep_text ask entry lease =
    numbered (codes "keep ask") ask ++ numbered (codes " entry") entry
    ++ numbered (codes " lease") lease

-- what happened to the shard
abbrev pub event_text : Event → List ℕ
event_text (Asks a) = ask_text a
event_text (Keeps ask entry c) = keep_text ask entry c.lease
event_text (Holds certs) = numbered (codes "hold") (length certs)
event_text (Discards digest) = codes "discard " ++ encode_lower digest
event_text (Forgets channel) = numbered (codes "forget") channel
event_text (Expires reading) = numbered (codes "expire") reading
event_text (Withdraws issuer) = numbered (codes "withdraw") issuer

-- why a proof was not kept
abbrev pub cause_text : DropCause → List ℕ
cause_text (NotHeld digest) = codes "not-held " ++ encode_lower digest
cause_text (Lapsed clock lease) = numbered (codes "lapsed") clock

-- what was told of it
abbrev pub told_text : Told → List ℕ
told_text (Replayed last) = numbered (codes "replayed") last
told_text (Full held) = numbered (codes "full") held
told_text (Hit entry) = numbered (codes "hit") entry
told_text Miss = codes "miss"
told_text Kept = codes "kept"
told_text (Dropped cause) = codes "dropped " ++ cause_text cause
told_text (Held added) = numbered (codes "added") added
told_text (CommonsFull held) = numbered (codes "full") held
told_text (Removed count) = numbered (codes "removed") count
told_text (WithdrawnFull held) = numbered (codes "full") held

-- the line of an entry of this shard, at its place
abbrev pub shard_line : ℕ → ℕ → Entry → List ℕ
shard_line shard place e =
    line (front (codes "shard") shard place) (event_text e.event) (told_text e.told)

-- the text of a shard's journal
abbrev pub shard_text : ℕ → List Entry → List ℕ
shard_text shard journal = text_of (shard_line shard) journal
