-- What journals as bytes come to beside the cells of an opening.
use Rattle.std.specs.Prelude.{◌≡◌, ◌≢◌, ℕ, ◌+◌, ◌<◌, ◌≤◌, List, [], ◌∷◌, ◌++◌, length, map, Some, Err, slice_get, sum_by, Contains}
use Rattle.byte_fields.specs.declared.fault.FormatFault.TheVariants as fault
use Rattle.object_core.specs.Objects.{ObjectEntry}
use Rattle.object_core.specs.Shelving.{ObjectFixed}
use Rattle.agent_core.specs.State.{Plan, Event}
use Rattle.agent_core.specs.Journals.{Entry, IsLegalJournal, IsMeant, told_at}
use Rattle.shard_core.specs.Cells.{Cells}
use Rattle.journal_bytes.specs.Events.{event_from}
use Rattle.journal_bytes.specs.JournalsReading.{journals_in}
use Rattle.journal_bytes.specs.Limits.{Spells}
use Rattle.journal_bytes.specs.Spelled.{Journals, Keeps, ObjectJournal, SpelledEntry, SpelledEvent}
use Rattle.journal_bytes.specs.Spelled.{numbered, spelled}
use Rattle.audit_replay.specs.declared.replayed.Cell.{Cell}
use Rattle.audit_replay.specs.declared.replayed.ReplayCause.{ReplayCause}
use Rattle.audit_replay.specs.declared.replayed.Replayed.{Replayed}
use Rattle.audit_replay.specs.Legal.{AreLegal, AreRuled, HasCells, IsRuled, Names, all_named, named}

-- the journals as their entries are spelled
abbrev pub all_spelled : List (List Entry) → List (List SpelledEntry)
all_spelled shards = map (λ (journal : List Entry). map spelled journal) shards

-- all entries, those of objects too
abbrev pub entries_in : Journals → ℕ
entries_in j =
    sum_by (λ entries. length entries) j.shards
    + sum_by (λ (o : ObjectJournal). length o.entries) j.objects

-- ---- why an entry of a shard fails, after these

-- why an event fails that is not what it has to be
abbrev pub Unmeant : SpelledEvent → ReplayCause → Type 0
Unmeant (Keeps ask e proof cites) cause = cause ≡ ReplayCause.Keep
Unmeant _ cause = cause ≡ ReplayCause.Told

-- the event is what it has to be
pub record IsWellMade (plan : Plan) (before : List Entry) (e : SpelledEntry) : Type 0 where
  pub event : Event
  pub is : event_from before e.event ≡ Some event
  pub meant : IsMeant plan before event

pub data ShardCause (plan : Plan) (before : List Entry) (e : SpelledEntry) :
    ReplayCause → Type 0 where
  full : plan.limit ≤ length before → ShardCause plan before e ReplayCause.Limit
  unmeant : {cause : ReplayCause} → length before < plan.limit →
      (IsWellMade plan before e → ⊥) → Unmeant e.event cause → ShardCause plan before e cause
  mistold : length before < plan.limit → (w : IsWellMade plan before e) →
      e.told ≢ told_at plan before w.event → ShardCause plan before e ReplayCause.Told

-- The first of these entries that is none of a legal journal stands at this place, for this cause.
pub record FailsAt (plan : Plan) (entries : List SpelledEntry) (place : ℕ)
    (cause : ReplayCause) : Type 0 where
  pub before : List Entry
  pub e : SpelledEntry
  pub rest : List SpelledEntry
  pub is : entries ≡ map spelled before ++ e ∷ rest
  pub placed : length before ≡ place
  pub legal : IsLegalJournal plan before
  pub fails : ShardCause plan before e cause

-- ---- why an entry of an object fails, after these, where all these Asks are named before it

module _ (cells : Cells) (shards : List (List Entry)) where
  pub data ObjectCause (f : ObjectFixed) (names : List (ℕ × ℕ)) (before : List ObjectEntry)
      (e : ObjectEntry) : ReplayCause → Type 0 where
    object_full : f.limit ≤ length before → ObjectCause f names before e ReplayCause.Limit
    unasked : length before < f.limit → (Names cells shards f.plan before e → ⊥) →
        ObjectCause f names before e ReplayCause.Ask
    again : length before < f.limit → Names cells shards f.plan before e →
        Contains names (named e) → ObjectCause f names before e ReplayCause.Again
    misruled : length before < f.limit → Names cells shards f.plan before e →
        (Contains names (named e) → ⊥) → (IsRuled cells shards f.plan before e → ⊥) →
        ObjectCause f names before e ReplayCause.Ruling

  -- The same of an object, behind others of which no entry fails.
  pub record ObjectFailsAt (f : ObjectFixed) (front : List ObjectJournal) (o : ObjectJournal)
      (place : ℕ) (cause : ReplayCause) : Type 0 where
    pub before : List ObjectEntry
    pub e : ObjectEntry
    pub rest : List ObjectEntry
    pub is : o.entries ≡ before ++ e ∷ rest
    pub placed : length before ≡ place
    pub ruled : AreRuled cells shards (front ++ numbered o.number before ∷ [])
    pub fails : ObjectCause f (all_named (front ++ numbered o.number before ∷ [])) before e cause

-- ---- what journals come to

pub data AreReplayed (cells : Cells) (j : Journals) : Replayed → Type 0 where
  -- these are the entries of legal journals, and each ruling is the one that is due
  legal : {shards : List (List Entry)} → HasCells cells j → j.shards ≡ all_spelled shards →
      AreLegal cells.plans shards → AreRuled cells shards j.objects →
      AreReplayed cells j (Replayed.Legal (entries_in j))
  other_cells : (HasCells cells j → ⊥) →
      AreReplayed cells j (Replayed.Illegal (Cell.Shard 0) 0 ReplayCause.Cells)
  -- the shards before this one are legal
  in_shard : (shards : List (List Entry)) {plan : Plan} {entries : List SpelledEntry}
      (others : List (List SpelledEntry)) {place : ℕ} {cause : ReplayCause} → HasCells cells j →
      j.shards ≡ all_spelled shards ++ entries ∷ others → AreLegal cells.plans shards →
      slice_get cells.plans (length shards) ≡ Some plan → FailsAt plan entries place cause →
      AreReplayed cells j (Replayed.Illegal (Cell.Shard (length shards)) place cause)
  -- all shards are legal, and so are the objects before this one
  in_object : {shards : List (List Entry)} {f : ObjectFixed} {o : ObjectJournal}
      {front : List ObjectJournal} (others : List ObjectJournal) {place : ℕ} {cause : ReplayCause} →
      HasCells cells j →
      j.shards ≡ all_spelled shards → AreLegal cells.plans shards →
      j.objects ≡ front ++ o ∷ others → slice_get cells.objects (length front) ≡ Some f →
      ObjectFailsAt cells shards f front o place cause →
      AreReplayed cells j (Replayed.Illegal (Cell.Object o.number) place cause)

-- what bytes come to: the first byte that can't stand, or what the journals come to that they spell
pub data IsReplayed (cells : Cells) (bytes : List ℕ) : Replayed → Type 0 where
  malformed : {offset : ℕ} → journals_in bytes ≡ Err (fault.Malformed offset) →
      IsReplayed cells bytes (Replayed.Malformed offset)
  judged : {j : Journals} {r : Replayed} → Spells j bytes → AreReplayed cells j r →
      IsReplayed cells bytes r
