-- The one spelling of journals, entry by entry.
use Rattle.std.specs.Prelude.{ℕ, ◌==◌, if◌then◌else◌, List, [], ◌∷◌, ◌++◌, length}
use Rattle.std.specs.Int.{w32, w64, to_be_bytes}
use Rattle.std.specs.List.{flat_map}
use Rattle.prin_term.specs.Principal.{spelling}
use Rattle.stmt_codec.specs.Certificates.{Certificate}
use Rattle.stmt_codec.specs.Lists.{cited_bytes}
use Rattle.taos_calculus.specs.Rules.{Line}
use Rattle.taos_calculus.specs.Spelling.{proof_bytes}
use Rattle.object_core.specs.Objects.{ObjectEntry}
use Rattle.object_core.specs.Spelling as object
use Rattle.object_core.specs.Spelling.{list_bytes, op_fields}
use Rattle.object_core.specs.declared.ruling.Ruling.{Ruling}
use Rattle.object_core.specs.declared.ruling.Ruling.TheVariants as ruling
use Rattle.agent_core.specs.declared.told.DropCause.{DropCause}
use Rattle.agent_core.specs.declared.told.Told.{Told}
use Rattle.agent_core.specs.State.{Ask}
use Rattle.journal_bytes.specs.declared.limits.TheConstants.{JOURNALS, VERSION}
use Rattle.journal_bytes.specs.Spelled.{SpelledEvent, Asks, Keeps, Holds, Discards, Forgets}
use Rattle.journal_bytes.specs.Spelled.{Expires, Withdraws, SpelledEntry, ObjectJournal, Journals}

-- ---- an entry of a shard

-- the byte that names an event
abbrev pub kind_of : SpelledEvent → ℕ
kind_of (Asks a) = 1
kind_of (Keeps ask entry proof cites) = 2
kind_of (Holds certs) = 3
kind_of (Discards digest) = 4
kind_of (Forgets channel) = 5
kind_of (Expires reading) = 6
kind_of (Withdraws issuer) = 7

-- an Ask: who asks, on which channel and under which number, what the clock read, the list and the
-- right, and what is presented
abbrev pub ask_bytes : Ask → List ℕ
ask_bytes a =
    to_be_bytes w32 a.channel ++ to_be_bytes w64 a.seq ++ to_be_bytes w64 a.reading
    ++ spelling a.subject ++ list_bytes a.list ++ a.right ∷ cited_bytes a.presented

-- a proof that is to be kept: the place of its Ask, the entry that grants, the proof and its cites
abbrev pub keep_bytes : ℕ → ℕ → List Line → List Certificate → List ℕ
keep_bytes ask entry proof cites =
    to_be_bytes w64 ask ++ entry ∷ proof_bytes proof ++ cited_bytes cites

-- what an event says besides its name
unfoldable pub event_fields : SpelledEvent → List ℕ
event_fields (Asks a) = ask_bytes a
event_fields (Keeps ask entry proof cites) = keep_bytes ask entry proof cites
event_fields (Holds certs) = cited_bytes certs
event_fields (Discards digest) = digest
event_fields (Forgets channel) = to_be_bytes w32 channel
event_fields (Expires reading) = to_be_bytes w64 reading
event_fields (Withdraws issuer) = to_be_bytes w32 issuer

-- why a proof was not kept
abbrev pub cause_bytes : DropCause → List ℕ
cause_bytes (DropCause.NotHeld digest) = 1 ∷ digest
cause_bytes (DropCause.Lapsed clock lease) = 2 ∷ to_be_bytes w64 clock ++ to_be_bytes w64 lease

-- what was told of an event of this kind: which of the answers to its sort, and what that one says
-- besides; of what was let go the count alone, unless an issuer was withdrawn
unfoldable pub told_bytes : ℕ → Told → List ℕ
told_bytes kind Told.Miss = 0 ∷ []
told_bytes kind (Told.Hit entry) = 1 ∷ entry ∷ []
told_bytes kind (Told.Replayed last) = 2 ∷ to_be_bytes w64 last
told_bytes kind (Told.Full held) = 3 ∷ held ∷ []
told_bytes kind Told.Kept = 0 ∷ []
told_bytes kind (Told.Dropped cause) = cause_bytes cause
told_bytes kind (Told.Held added) = 0 ∷ added ∷ []
told_bytes kind (Told.CommonsFull held) = 1 ∷ held ∷ []
told_bytes kind (Told.Removed count) =
    if kind == 7 then 0 ∷ to_be_bytes w32 count else to_be_bytes w32 count
told_bytes kind (Told.WithdrawnFull held) = 1 ∷ held ∷ []

-- an entry: the event, and what was told of it
unfoldable pub entry_bytes : SpelledEntry → List ℕ
entry_bytes e =
    kind_of e.event ∷ event_fields e.event ++ told_bytes (kind_of e.event) e.told

-- ---- an entry of an object

-- a denial, or the entry that grants
abbrev pub ruling_bytes : Ruling → List ℕ
ruling_bytes ruling.Denied = 0 ∷ []
ruling_bytes (ruling.Granted entry) = 1 ∷ entry ∷ []

-- the Ask, by its shard and place, the operation, and the ruling
unfoldable pub ruled_bytes : ObjectEntry → List ℕ
ruled_bytes e =
    to_be_bytes w32 e.shard ++ to_be_bytes w64 e.place ++ object.kind_of e.op ∷ op_fields e.op
    ++ ruling_bytes e.ruling

-- ---- journals

-- the entries of a shard, after their count
unfoldable pub shard_bytes : List SpelledEntry → List ℕ
shard_bytes entries = to_be_bytes w64 (length entries) ++ flat_map entry_bytes entries

-- the number of an object, and its entries after their count
unfoldable pub object_bytes : ObjectJournal → List ℕ
object_bytes o =
    to_be_bytes w32 o.number ++ to_be_bytes w64 (length o.entries)
    ++ flat_map ruled_bytes o.entries

-- the journals of all shards after their count, and those of all objects after theirs
abbrev pub all_bytes : List (List SpelledEntry) → List ObjectJournal → List ℕ
all_bytes shards objects =
    to_be_bytes w32 (length shards) ++ flat_map shard_bytes shards
    ++ to_be_bytes w32 (length objects) ++ flat_map object_bytes objects

-- the spelling of journals: a byte that says what it is, the version, and the journals
abbrev pub journals_bytes : Journals → List ℕ
journals_bytes j = JOURNALS ∷ VERSION ∷ all_bytes j.shards j.objects
