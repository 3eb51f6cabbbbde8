-- What became of journals that were read one after the other, in one pass.
use Rattle.std.specs.Prelude.{◌≡◌, ◌↔◌, ◌+◌, ◌≤◌, IsTrue, ℕ, List, [], ◌∷◌, ◌++◌, length, map, Option, None, slice_get, Some, sum_by, if◌then◌else◌}
use Rattle.std.specs.declared.alloc.Global.{Global}
use Rattle.std.specs.declared.vec.Vec.{Vec}
use Rattle.object_core.specs.Objects.{ObjectEntry, ObjectSeen}
use Rattle.object_core.specs.Shelving.{fixed_of}
use Rattle.agent_core.specs.Journals.{Entry, ShardSeen}
use Rattle.agent_core.specs.Plans.{IsPlan}
use Rattle.agent_core.specs.State.{Plan}
use Rattle.shard_core.specs.Cells.{Cells}
use Rattle.journal_bytes.specs.Spelled.{ObjectJournal, SpelledEntry, numbered}
use Rattle.audit_replay.specs.declared.fall.Failure.{Failure}
use Rattle.audit_replay.specs.declared.fall.Fall.{Fall}
use Rattle.audit_replay.specs.declared.fall.Progress.{Progress}
use Rattle.audit_replay.specs.declared.replayed.Cell.{Cell}
use Rattle.audit_replay.specs.declared.replayed.ReplayCause.{ReplayCause}
use Rattle.audit_replay.specs.declared.replayed.Replayed.{Replayed}
use Rattle.audit_replay.specs.declared.stepping.ShardReplay.{ShardReplay}
use Rattle.audit_replay.specs.Stepping.{HasBeenRuled, HasCome, HaveCome}

-- the shard is that of the cells with this number, and has no entry yet
pub record IsFresh (plans : List Plan) (number : ℕ) (s : ShardSeen) : Type 0 where
  pub opened : slice_get plans number ≡ Some s.plan
  pub planned : IsPlan s.plan
  pub empty : s.journal ≡ []

-- the same of an object and its place
pub record IsFreshObject (cells : Cells) (place : ℕ) (o : ObjectSeen) : Type 0 where
  pub opened : slice_get cells.objects place ≡ Some (fixed_of o)
  pub empty : o.journal ≡ []

-- each shard is that of its place
abbrev pub AreFresh : List Plan → List ShardSeen → Type 0
AreFresh plans shards =
    (i : ℕ) (s : ShardSeen) → slice_get shards i ≡ Some s → IsFresh plans i s

abbrev pub AreFreshObjects : Cells → List ObjectSeen → Type 0
AreFreshObjects cells objects =
    (i : ℕ) (o : ObjectSeen) → slice_get objects i ≡ Some o → IsFreshObject cells i o

-- the journals have the numbers of these objects
abbrev pub HaveNumbers : List ObjectSeen → List ObjectJournal → Type 0
HaveNumbers objects journals =
    map (λ (o : ObjectJournal). o.number) journals ≡ map (λ (o : ObjectSeen). o.plan.number) objects

-- so many entries
abbrev pub entries_of : List (List SpelledEntry) → ℕ
entries_of shards = sum_by (λ entries. length entries) shards

abbrev pub rulings_of : List ObjectJournal → ℕ
rulings_of objects = sum_by (λ (o : ObjectJournal). length o.entries) objects

-- ---- shards

-- the entries that were read up to the offset, and what became of them
pub record EntriesCome (before after : ShardReplay) (read : List SpelledEntry × ℕ)
    (x : Option Fall × ℕ) : Type 0 where
  pub ends : read.1 ≡ x.1
  pub come : (plans : List Plan) (number : ℕ) → HasCome plans number [] before None →
      HasCome plans number read.0 after x.0

-- the same of a shard that has no entry yet
pub record ReplayComes (s : ShardSeen) (read : List SpelledEntry × ℕ)
    (x : ShardReplay × Option Fall × ℕ) : Type 0 where
  pub ends : read.1 ≡ x.2
  pub come : (plans : List Plan) (number : ℕ) → IsFresh plans number s →
      HasCome plans number read.0 x.0 x.1

-- the journal of one shard more
pub record ShardComes (s : ShardSeen) (before after : List ShardReplay) (progress : Progress)
    (read : List SpelledEntry × ℕ) (x : Progress × ℕ) : Type 0 where
  pub ends : read.1 ≡ x.1
  pub same : x.0.same ≡ progress.same
  pub counted : x.0.entries ≡ progress.entries + length read.0
  pub come : (cells : Cells) (shards : List (List SpelledEntry)) →
      IsFresh cells.plans (length shards) s → HaveCome cells shards [] before progress.failure →
      HaveCome cells (shards ++ read.0 ∷ []) [] after x.0.failure

-- the journals of these shards
pub record ShardsCome (shards : List ShardSeen) (read : List (List SpelledEntry) × ℕ)
    (x : Vec ShardReplay Global × Progress × ℕ) : Type 0 where
  pub ends : read.1 ≡ x.2
  pub same : IsTrue x.1.same
  pub counted : x.1.entries ≡ entries_of read.0
  pub come : (cells : Cells) → AreFresh cells.plans shards →
      HaveCome cells read.0 [] x.0.items x.1.failure

-- the journals of as many shards, or it is known that there are more or fewer
pub record ShardsCompare (shards : List ShardSeen) (read : List (List SpelledEntry) × ℕ)
    (x : Vec ShardReplay Global × Progress × ℕ) : Type 0 where
  pub ends : read.1 ≡ x.2
  pub same : IsTrue x.1.same ↔ (length read.0 ≡ length shards)
  pub counted : IsTrue x.1.same → x.1.entries ≡ entries_of read.0
  pub come : (cells : Cells) → IsTrue x.1.same → AreFresh cells.plans shards →
      HaveCome cells read.0 [] x.0.items x.1.failure

-- ---- objects

-- the entries that were read of an object, and what became of them
pub record RulingsCome (before after : List ShardReplay) (o now : ObjectSeen)
    (read : List ObjectEntry × ℕ) (x : Option Fall × ℕ) : Type 0 where
  pub ends : read.1 ≡ x.1
  pub come : (cells : Cells) (journals : List (List Entry)) (front : List ObjectJournal)
      (number : ℕ) → HasBeenRuled cells journals front number [] before o None →
      HasBeenRuled cells journals front number read.0 after now x.0

-- the same among the other objects: they are only read where an entry failed before
pub record EntriesRuled (before after : List ShardReplay) (o : ObjectSeen) (progress : Progress)
    (read : List ObjectEntry × ℕ) (x : Progress × ℕ) : Type 0 where
  pub ends : read.1 ≡ x.1
  pub same : x.0.same ≡ progress.same
  pub counted : x.0.entries ≡ progress.entries + length read.0
  pub come : (cells : Cells) (shards : List (List SpelledEntry)) (objects : List ObjectJournal) →
      IsTrue progress.same → IsFreshObject cells (length objects) o →
      HaveCome cells shards objects before progress.failure →
      HaveCome cells shards (objects ++ numbered o.plan.number read.0 ∷ []) after x.0.failure

-- the journal of one object more
pub record ObjectComes (before after : List ShardReplay) (o : ObjectSeen) (progress : Progress)
    (least : ℕ) (read : ObjectJournal × ℕ) (x : Progress × ℕ × ℕ) : Type 0 where
  pub ends : read.1 ≡ x.2
  pub rises : (least ≤ read.0.number) × (x.1 ≡ read.0.number + 1)
  pub same : IsTrue x.0.same ↔ (IsTrue progress.same × (read.0.number ≡ o.plan.number))
  pub counted : x.0.entries ≡ progress.entries + length read.0.entries
  pub come : (cells : Cells) (shards : List (List SpelledEntry)) (objects : List ObjectJournal) →
      IsTrue x.0.same → IsFreshObject cells (length objects) o →
      HaveCome cells shards objects before progress.failure →
      HaveCome cells shards (objects ++ read.0 ∷ []) after x.0.failure

-- the journals of as many objects with these numbers, or it is known that they are others
pub record ObjectsCome (replayed : List ShardReplay) (objects : List ObjectSeen)
    (progress : Progress) (read : List ObjectJournal × ℕ) (x : Progress × ℕ) : Type 0 where
  pub ends : read.1 ≡ x.1
  pub same : IsTrue x.0.same ↔ (IsTrue progress.same × HaveNumbers objects read.0)
  pub counted : IsTrue x.0.same → x.0.entries ≡ progress.entries + rulings_of read.0
  pub come : (cells : Cells) (shards : List (List SpelledEntry)) → IsTrue x.0.same →
      AreFreshObjects cells objects → HaveCome cells shards [] replayed progress.failure →
      (after : List ShardReplay) × HaveCome cells shards read.0 after x.0.failure

-- ---- the end

-- the first failure, or as many legal entries
abbrev pub outcome_at : Option Failure → ℕ → Replayed
outcome_at None entries = Replayed.Legal entries
outcome_at (Some f) entries = Replayed.Illegal f.cell f.place f.cause

-- what all journals come to by what is known of them
abbrev pub outcome_of : Progress → Replayed
outcome_of p =
    if p.same then outcome_at p.failure p.entries
    else Replayed.Illegal (Cell.Shard 0) 0 ReplayCause.Cells
