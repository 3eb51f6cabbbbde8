-- What the program's entries have of themselves: each of their numbers fits its field.
use Rattle.std.specs.Prelude.{◌≡◌, ◌<◌, ◌^◌, List, All}
use Rattle.byte_fields.specs.Steps.{IsByte}
use Rattle.stmt_codec.specs.Certificates.{FitsBody}
use Rattle.taos_calculus.specs.Limits.{IsProofParts}
use Rattle.taos_calculus.specs.Rules.{Line}
use Rattle.taos_calculus.specs.Spells.{NodeFits, StepFits}
use Rattle.taos_calculus.specs.Tables.{Parts, lines_of}
use Rattle.taos_calculus.specs.declared.line.Line as code
use Rattle.object_core.specs.Objects.{ObjectEntry}
use Rattle.object_core.specs.Operation.{IsDigest}
use Rattle.agent_core.specs.declared.told.DropCause.{DropCause}
use Rattle.agent_core.specs.declared.told.Told.{Told}
use Rattle.agent_core.specs.State.{Ask, Event, Asks, Keeps, Holds, Discards, Forgets, Expires, Withdraws}
use Rattle.agent_core.specs.Journals.{Entry}
use Rattle.journal_bytes.specs.Limits.{FitsRuling}

-- the numbers of an Ask
pub record AskNumbers (a : Ask) : Type 0 where
  pub channel : a.channel < 2 ^ 32
  pub seq : a.seq < 2 ^ 64
  pub reading : a.reading < 2 ^ 64

-- a line's numbers of premises, of an anchor or of a certificate
abbrev pub HasLineNumbers : code.Line → Type 0
HasLineNumbers l = StepFits l.step

-- the nodes' and the lines' numbers of some parts
pub record PartsNumbers (parts : Parts) : Type 0 where
  pub proof : IsProofParts parts
  pub nodes : All NodeFits parts.nodes
  pub lines : All HasLineNumbers parts.lines

-- the numbers of a proof
pub record ProofNumbers (lines : List Line) : Type 0 where
  pub parts : Parts
  pub numbers : PartsNumbers parts
  pub meaning : lines_of parts ≡ lines

-- the numbers of an event
abbrev pub EventNumbers : Event → Type 0
EventNumbers (Asks a) = AskNumbers a × All FitsBody a.presented
EventNumbers (Keeps ask entry c) =
    (ask < 2 ^ 64) × IsByte entry × ProofNumbers c.proof × All FitsBody c.cites
EventNumbers (Holds certs) = All FitsBody certs
EventNumbers (Discards digest) = IsDigest digest
EventNumbers (Forgets channel) = channel < 2 ^ 32
EventNumbers (Expires reading) = reading < 2 ^ 64
EventNumbers (Withdraws issuer) = issuer < 2 ^ 32

-- the numbers of why a proof was not kept
abbrev pub CauseNumbers : DropCause → Type 0
CauseNumbers (DropCause.NotHeld digest) = IsDigest digest
CauseNumbers (DropCause.Lapsed clock lease) = (clock < 2 ^ 64) × (lease < 2 ^ 64)

-- the numbers of what was told
abbrev pub ToldNumbers : Told → Type 0
ToldNumbers Told.Miss = Unit {0}
ToldNumbers (Told.Hit entry) = IsByte entry
ToldNumbers (Told.Replayed last) = last < 2 ^ 64
ToldNumbers (Told.Full held) = IsByte held
ToldNumbers Told.Kept = Unit {0}
ToldNumbers (Told.Dropped cause) = CauseNumbers cause
ToldNumbers (Told.Held added) = IsByte added
ToldNumbers (Told.CommonsFull held) = IsByte held
ToldNumbers (Told.Removed count) = count < 2 ^ 32
ToldNumbers (Told.WithdrawnFull held) = IsByte held

-- the numbers of an entry of a shard
abbrev pub EntryNumbers : Entry → Type 0
EntryNumbers e = EventNumbers e.event × ToldNumbers e.told

-- the numbers of an entry of an object
pub record RuledNumbers (e : ObjectEntry) : Type 0 where
  pub shard : e.shard < 2 ^ 32
  pub place : e.place < 2 ^ 64
  pub ruling : FitsRuling e.ruling
