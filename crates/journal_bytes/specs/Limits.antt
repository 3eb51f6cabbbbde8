-- The limits of journals, and which bytes spell them.
use Rattle.std.specs.Prelude.{◌≡◌, ℕ, ◌<◌, ◌≤◌, ◌^◌, ◌||◌, ◌==◌, Bool, true, List, ◌++◌, length}
use Rattle.std.specs.Prelude.{drop, map, All, AllPairs}
use Rattle.prin_term.specs.declared.limits.TheConstants.{ENTRY_NODES}
use Rattle.prin_term.specs.Refusal.{FitsLimits}
use Rattle.byte_fields.specs.Steps.{IsByte}
use Rattle.stmt_codec.specs.Certificates.{Certificate, FitsBody}
use Rattle.taos_calculus.specs.Rules.{Line}
use Rattle.taos_calculus.specs.Spells.{IsProof}
use Rattle.object_core.specs.Objects.{ObjectEntry, ObjectSeen}
use Rattle.object_core.specs.Operation.{FitsOperation, IsAccessList, IsDigest}
use Rattle.object_core.specs.declared.ruling.Ruling.{Ruling}
use Rattle.object_core.specs.declared.ruling.Ruling.TheVariants as ruling
use Rattle.agent_core.specs.declared.told.DropCause.{DropCause}
use Rattle.agent_core.specs.declared.told.Told.{Told}
use Rattle.agent_core.specs.State.{Ask, Event}
use Rattle.agent_core.specs.State as agent
use Rattle.agent_core.specs.Journals.{Entry, ShardSeen}
use Rattle.journal_bytes.specs.declared.limits.TheConstants.{MAX_BODIES, MAX_CITES}
use Rattle.journal_bytes.specs.Spelled.{SpelledEvent, Asks, Keeps, Holds, Discards, Forgets}
use Rattle.journal_bytes.specs.Spelled.{Expires, Withdraws, SpelledEntry, ObjectJournal, Journals, object_spelled}
use Rattle.journal_bytes.specs.Spelling.{kind_of, entry_bytes, ruled_bytes, journals_bytes}

-- ---- an entry of a shard

-- the right of an operation: read, write, control or manage
abbrev pub is_right : ℕ → Bool
is_right r = (r == 1) || ((r == 2) || ((r == 4) || (r == 8)))

-- certificates within their limits, and at most so many
abbrev pub AreFew : ℕ → List Certificate → Type 0
AreFew most certs = (length certs ≤ most) × All FitsBody certs

-- the numbers of an Ask fit their fields, and what it carries is within the limits
pub record FitsAsk (a : Ask) : Type 0 where
  pub channel : a.channel < 2 ^ 32
  pub seq : a.seq < 2 ^ 64
  pub reading : a.reading < 2 ^ 64
  pub subject : FitsLimits ENTRY_NODES a.subject
  pub list : IsAccessList a.list
  pub right : IsByte a.right × (is_right a.right ≡ true)
  pub presented : AreFew MAX_BODIES a.presented

-- the same of a proof that is to be kept
pub record FitsKeep (ask entry : ℕ) (proof : List Line) (cites : List Certificate) : Type 0 where
  pub ask_fits : ask < 2 ^ 64
  pub entry_fits : IsByte entry
  pub proof_fits : IsProof proof
  pub cites_fit : AreFew MAX_CITES cites

-- what an event carries is within the limits
abbrev pub FitsEvent : SpelledEvent → Type 0
FitsEvent (Asks a) = FitsAsk a
FitsEvent (Keeps ask entry proof cites) = FitsKeep ask entry proof cites
FitsEvent (Holds certs) = AreFew MAX_BODIES certs
FitsEvent (Discards digest) = IsDigest digest
FitsEvent (Forgets channel) = channel < 2 ^ 32
FitsEvent (Expires reading) = reading < 2 ^ 64
FitsEvent (Withdraws issuer) = issuer < 2 ^ 32

-- it is told of events of this kind, and its numbers fit their fields
abbrev pub FitsTold : ℕ → Told → Type 0
FitsTold kind Told.Miss = kind ≡ 1
FitsTold kind (Told.Hit entry) = (kind ≡ 1) × IsByte entry
FitsTold kind (Told.Replayed last) = (kind ≡ 1) × (last < 2 ^ 64)
FitsTold kind (Told.Full held) = (kind ≡ 1) × IsByte held
FitsTold kind Told.Kept = kind ≡ 2
FitsTold kind (Told.Dropped (DropCause.NotHeld digest)) = (kind ≡ 2) × IsDigest digest
FitsTold kind (Told.Dropped (DropCause.Lapsed clock lease)) =
    (kind ≡ 2) × (clock < 2 ^ 64) × (lease < 2 ^ 64)
FitsTold kind (Told.Held added) = (kind ≡ 3) × IsByte added
FitsTold kind (Told.CommonsFull held) = (kind ≡ 3) × IsByte held
FitsTold kind (Told.Removed count) = (3 < kind) × (count < 2 ^ 32)
FitsTold kind (Told.WithdrawnFull held) = (kind ≡ 7) × IsByte held

-- the event is within the limits, and what was told is told of such an event
pub record FitsEntry (e : SpelledEntry) : Type 0 where
  pub event : FitsEvent e.event
  pub told : FitsTold (kind_of e.event) e.told

-- what an event lists can be counted in one byte, so that it can be spelled at all
abbrev pub AreCountable : Event → Type 0
AreCountable (agent.Asks a) = (length a.list < 256) × (length a.presented < 256)
AreCountable (agent.Keeps ask entry c) = length c.cites < 256
AreCountable (agent.Holds certs) = length certs < 256
AreCountable _ = Unit {0}

-- what an event cites is not too much for a spelling
abbrev pub CitesFewOf : Event → Type 0
CitesFewOf (agent.Keeps ask entry c) = length c.cites ≤ MAX_CITES
CitesFewOf _ = Unit {0}

-- no proof that is to be kept in this shard cites too much for a spelling
abbrev pub CitesFew : ShardSeen → Type 0
CitesFew s = All (λ (e : Entry). CitesFewOf e.event) s.journal

-- the subject, the list and the right of an Ask are within the limits
pub record IsAskWithin (a : Ask) : Type 0 where
  pub subject : FitsLimits ENTRY_NODES a.subject
  pub list : IsAccessList a.list
  pub right : IsByte a.right × (is_right a.right ≡ true)

-- so are those of the Ask that an event may be
abbrev pub AsksWithinOf : Event → Type 0
AsksWithinOf (agent.Asks a) = IsAskWithin a
AsksWithinOf _ = Unit {0}

-- each Ask of this shard is within the limits
abbrev pub AsksWithin : ShardSeen → Type 0
AsksWithin s = All (λ (e : Entry). AsksWithinOf e.event) s.journal

-- each operation of this object is within the limits
abbrev pub HasFittingOps : ObjectSeen → Type 0
HasFittingOps o = All (λ (e : ObjectEntry). FitsOperation e.op) o.journal

-- ---- an entry of an object

-- the entry that grants is one byte
abbrev pub FitsRuling : Ruling → Type 0
FitsRuling ruling.Denied = Unit {0}
FitsRuling (ruling.Granted entry) = IsByte entry

-- the numbers of an object's entry fit their fields, and the operation is within the limits
pub record FitsRuled (e : ObjectEntry) : Type 0 where
  pub shard : e.shard < 2 ^ 32
  pub place : e.place < 2 ^ 64
  pub op : FitsOperation e.op
  pub ruling : FitsRuling e.ruling

-- ---- journals

-- the journal of a shard
abbrev pub FitsShard : List SpelledEntry → Type 0
FitsShard entries = (length entries < 2 ^ 64) × All FitsEntry entries

-- the journal of an object
pub record FitsObject (o : ObjectJournal) : Type 0 where
  pub number : o.number < 2 ^ 32
  pub entries : (length o.entries < 2 ^ 64) × All FitsRuled o.entries

-- the first object has the smaller number
abbrev pub StandsBefore : ObjectJournal → ObjectJournal → Type 0
StandsBefore a b = a.number < b.number

-- the numbers of these objects rise
abbrev pub NumbersRise : List ObjectSeen → Type 0
NumbersRise objects = AllPairs StandsBefore (map object_spelled objects)

-- each journal is within the limits, and the numbers of the objects rise
pub record FitsJournals (j : Journals) : Type 0 where
  pub shards : (length j.shards < 2 ^ 32) × All FitsShard j.shards
  pub objects : (length j.objects < 2 ^ 32) × All FitsObject j.objects
  pub ascending : AllPairs StandsBefore j.objects

-- ---- which bytes spell them

-- the bytes from an offset on begin with this entry of a shard, which is within the limits
pub record IsEntryAt (bytes : List ℕ) (at : ℕ) (e : SpelledEntry) : Type 0 where
  pub text : (rest : List ℕ) × (drop at bytes ≡ entry_bytes e ++ rest)
  pub limits : FitsEntry e

-- the bytes from an offset on begin with this entry of an object, which is within the limits
pub record IsRuledAt (bytes : List ℕ) (at : ℕ) (e : ObjectEntry) : Type 0 where
  pub text : (rest : List ℕ) × (drop at bytes ≡ ruled_bytes e ++ rest)
  pub limits : FitsRuled e

-- the bytes are those of the journals, which are within the limits
pub record Spells (j : Journals) (bytes : List ℕ) : Type 0 where
  pub limits : FitsJournals j
  pub text : bytes ≡ journals_bytes j

-- the new bytes are the old ones, and behind them the spelling of the journals
pub record AddsSpelling (old new : List ℕ) (j : Journals) : Type 0 where
  pub text : List ℕ
  pub added : new ≡ old ++ text
  pub spells : Spells j text
