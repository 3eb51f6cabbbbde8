-- One entry more of a shard, and how far entries of shards and objects were looked at.
use Rattle.std.specs.Prelude.{◌≡◌, ◌⊎◌, ◌+◌, ◌≤◌, ℕ, List, [], ◌∷◌, ◌++◌, length, map, Option, None, Some, Result, Ok, Err, slice_get, Contains, MatchResult}
use Rattle.byte_fields.specs.declared.fault.FormatFault.{FormatFault}
use Rattle.byte_fields.specs.declared.fault.FormatFault.TheVariants.{NoMemory}
use Rattle.stmt_codec.specs.Certificates.{Certificate}
use Rattle.object_core.specs.Objects.{ObjectEntry, ObjectSeen}
use Rattle.object_core.specs.Shelving.{ObjectFixed, fixed_of}
use Rattle.agent_core.specs.declared.told.Answer.{Answer}
use Rattle.agent_core.specs.declared.told.Told.{Told}
use Rattle.agent_core.specs.Answers.{Given, Full, Handed, given_by}
use Rattle.agent_core.specs.State.{Plan, Event}
use Rattle.agent_core.specs.Journals.{Entry, ShardSeen, entry}
use Rattle.agent_core.specs.Steps.{Hit, Miss, Other, StepAnswer, Steps}
use Rattle.shard_core.specs.Cells.{Cells}
use Rattle.journal_bytes.specs.Limits.{FitsEntry}
use Rattle.journal_bytes.specs.Spelled.{ObjectJournal, SpelledEntry, numbered, spelled}
use Rattle.audit_replay.specs.declared.due.Due.{Due}
use Rattle.audit_replay.specs.declared.fall.Failure.{Failure}
use Rattle.audit_replay.specs.declared.fall.Fall.{Fall}
use Rattle.audit_replay.specs.declared.replayed.Cell.{Cell}
use Rattle.audit_replay.specs.declared.replayed.ReplayCause.{ReplayCause}
use Rattle.audit_replay.specs.declared.stepping.ShardReplay.{ShardReplay}
use Rattle.audit_replay.specs.Legal.{AreLegal, AreRuled, all_named}
use Rattle.audit_replay.specs.Marks.{AreSound, IsMark, IsSound}
use Rattle.audit_replay.specs.Replays.{FailsAt, ObjectFailsAt, ShardCause, all_spelled}

-- what was told, by what an answer gives; of a full journal nothing
abbrev pub told_in : Given → Option Told
told_in (Handed (Hit e c)) = Some (Told.Hit e)
told_in (Handed (Miss moment certs)) = Some Told.Miss
told_in (Handed (Other told)) = Some told
told_in (Full n) = None

-- one entry more after these, which is spelled so, and this answer
pub record IsStepped (plan : Plan) (before : List Entry) (e : SpelledEntry) (after : List Entry)
    (answer : Answer) : Type 0 where
  pub event : Event
  pub handed : StepAnswer
  pub given : given_by answer ≡ Handed handed
  pub steps : Steps plan before event after (length before) handed
  pub is : spelled (entry event steps.told) ≡ e

-- the entry was stepped, with this answer, or why it is not the one that the shard makes
abbrev pub StepsOrFails : (old new : ShardSeen) → SpelledEntry → Result Answer ReplayCause → Type 0
StepsOrFails old new e stepped =
    MatchResult stepped (IsStepped old.plan old.journal e new.journal)
    (ShardCause old.plan old.journal e)

-- the last entry of the journal was stepped, and is within the limits of a spelling
pub record WasStepped (plan : Plan) (journal : List Entry) (answer : Answer) : Type 0 where
  pub before : List Entry
  pub e : SpelledEntry
  pub fits : FitsEntry e
  pub stepped : IsStepped plan before e journal answer

-- the same, and it is an Ask that is judged at this moment by these certificates
pub record WasMissed (plan : Plan) (journal : List Entry) (moment : ℕ)
    (certs : List Certificate) : Type 0 where
  pub answer : Answer
  pub stepped : WasStepped plan journal answer
  pub missed : given_by answer ≡ Handed (Miss moment certs)

-- the mark stands for what is due to the last entry, which no name has
abbrev pub IsLastMark : Plan → List Entry → Option Due → Type 0
IsLastMark plan journal mark =
    (names : List (ℕ × ℕ)) (shard place : ℕ) → place + 1 ≡ length journal →
    (Contains names (shard, place) → ⊥) → IsMark plan journal names shard place mark

-- the journals of shards that were stepped again
abbrev pub stepped_again : List ShardReplay → List (List Entry)
stepped_again rs = map (λ (r : ShardReplay). r.shard.journal) rs

-- ---- reading

-- what is read and what was made of it are so related, unless memory ran out
abbrev pub MakesOf : {X Y : Type 0} → (Y → X → Type 0) → Result X FormatFault
    → Result Y FormatFault → Type 0
MakesOf Related (Ok x) read = (y : _) × (read ≡ Ok y) × Related y x
MakesOf Related (Err e) read = (e ≡ NoMemory) ⊎ (read ≡ Err e)

-- what is read up to this offset is let go, unless memory ran out
abbrev pub PassesOver : {Y : Type 0} → Result ℕ FormatFault → Result (Y × ℕ) FormatFault → Type 0
PassesOver {Y} result read = MakesOf (λ (y : Y × ℕ) end. y.1 ≡ end) result read

-- the journal of an object is let go, and the next number is at least this one
pub record PassesObject (least : ℕ) (read : ObjectJournal × ℕ) (x : ℕ × ℕ) : Type 0 where
  pub ends : read.1 ≡ x.1
  pub rises : (least ≤ read.0.number) × (x.0 ≡ read.0.number + 1)

-- the failure of a cell
abbrev pub failure_at : Cell → Fall → Failure
failure_at cell f = record { cell = cell; place = f.place; cause = f.cause }

-- ---- entries of one shard

-- what became of the entries of the shard of this number that were read
pub data HasCome (plans : List Plan) (number : ℕ) (entries : List SpelledEntry)
    (r : ShardReplay) : Option Fall → Type 0 where
  comes : IsSound plans [] number r → map spelled r.shard.journal ≡ entries →
      HasCome plans number entries r None
  fell : {plan : Plan} {place : ℕ} {cause : ReplayCause} → slice_get plans number ≡ Some plan →
      FailsAt plan entries place cause →
      HasCome plans number entries r (Some (record { place = place; cause = cause }))

-- ---- all shards and objects

-- what became of the journals of shards and objects that were read
pub data HaveCome (cells : Cells) (shards : List (List SpelledEntry))
    (objects : List ObjectJournal) (rs : List ShardReplay) : Option Failure → Type 0 where
  stand : AreSound cells.plans (all_named objects) rs → all_spelled (stepped_again rs) ≡ shards →
      AreRuled cells (stepped_again rs) objects → HaveCome cells shards objects rs None
  in_shard : (front : List (List Entry)) {plan : Plan} {entries : List SpelledEntry}
      (others : List (List SpelledEntry)) {place : ℕ} {cause : ReplayCause} →
      shards ≡ all_spelled front ++ entries ∷ others → AreLegal cells.plans front →
      slice_get cells.plans (length front) ≡ Some plan → FailsAt plan entries place cause →
      HaveCome cells shards objects rs
      (Some (record { cell = Cell.Shard (length front); place = place; cause = cause }))
  in_object : {journals : List (List Entry)} {f : ObjectFixed} {o : ObjectJournal}
      {front : List ObjectJournal} (others : List ObjectJournal) {place : ℕ} {cause : ReplayCause} →
      shards ≡ all_spelled journals → AreLegal cells.plans journals →
      objects ≡ front ++ o ∷ others → slice_get cells.objects (length front) ≡ Some f →
      ObjectFailsAt cells journals f front o place cause →
      HaveCome cells shards objects rs
      (Some (record { cell = Cell.Object o.number; place = place; cause = cause }))

-- what became of the entries of an object that were read, behind other objects
pub data HasBeenRuled (cells : Cells) (shards : List (List Entry)) (front : List ObjectJournal)
    (number : ℕ) (entries : List ObjectEntry) (rs : List ShardReplay) (o : ObjectSeen) :
    Option Fall → Type 0 where
  rules : slice_get cells.objects (length front) ≡ Some (fixed_of o) →
      AreSound cells.plans (all_named (front ++ numbered number entries ∷ [])) rs →
      stepped_again rs ≡ shards → o.journal ≡ entries →
      AreRuled cells shards (front ++ numbered number entries ∷ []) →
      HasBeenRuled cells shards front number entries rs o None
  falls : {place : ℕ} {cause : ReplayCause} →
      ObjectFailsAt cells shards (fixed_of o) front (numbered number entries) place cause →
      HasBeenRuled cells shards front number entries rs o
      (Some (record { place = place; cause = cause }))
