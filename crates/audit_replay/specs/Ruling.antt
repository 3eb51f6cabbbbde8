-- An entry of an object, held against the Ask that it names.
use Rattle.std.specs.Prelude.{◌≡◌, ◌↔◌, ◌++◌, ◌∷◌, [], IsTrue, ℕ, ◌<◌, List, length, Option, Some, slice_get, Contains, MatchOption}
use Rattle.object_core.specs.Objects.{ObjectEntry, ObjectPlan, ObjectSeen}
use Rattle.object_core.specs.Shelving.{fixed_of}
use Rattle.agent_core.specs.Journals.{Entry}
use Rattle.shard_core.specs.Cells.{Cells}
use Rattle.audit_replay.specs.declared.due.Due.{Due}
use Rattle.audit_replay.specs.declared.replayed.ReplayCause.{ReplayCause}
use Rattle.audit_replay.specs.declared.stepping.ShardReplay.{ShardReplay}
use Rattle.audit_replay.specs.Legal.{IsDue, IsRuled, Names, named}
use Rattle.audit_replay.specs.Marks.{AreSound}
use Rattle.audit_replay.specs.Replays.{ObjectCause}
use Rattle.journal_bytes.specs.Spelled.{ObjectJournal}
use Rattle.audit_replay.specs.declared.fall.Fall.{Fall}
use Rattle.audit_replay.specs.Stepping.{HasBeenRuled, stepped_again}

-- the mark stands at the place of the shard of this number
pub record HasMark (rs : List ShardReplay) (shard place : ℕ) (d : Due) : Type 0 where
  pub replay : ShardReplay
  pub is : slice_get rs shard ≡ Some replay
  pub marked : slice_get replay.marks.items place ≡ Some (Some d)

-- the entry names an Ask to which this is due, and these names have it or not
pub record IsNamedDue (cells : Cells) (shards : List (List Entry)) (names : List (ℕ × ℕ))
    (object : ObjectPlan) (before : List ObjectEntry) (e : ObjectEntry) (d : Due) : Type 0 where
  pub place_is : Names cells shards object before e
  pub due : IsDue place_is.plan place_is.journal e.place place_is.asked d.ruling
  pub named_is : IsTrue d.named ↔ Contains names (named e)

-- what is due to the Ask that an entry of this object names, whatever the cells and the names are;
-- none where it names no such Ask
abbrev pub FindsDue : List ShardReplay → ObjectSeen → ObjectEntry → Option Due → Type 0
FindsDue rs o e due =
    (cells : Cells) (names : List (ℕ × ℕ)) → AreSound cells.plans names rs →
    MatchOption due (Names cells (stepped_again rs) o.plan o.journal e → ⊥)
    (IsNamedDue cells (stepped_again rs) names o.plan o.journal e)

-- why an entry of this object fails
abbrev pub RulingCause : Cells → List ShardReplay → ObjectSeen → List (ℕ × ℕ) → ObjectEntry
    → ReplayCause → Type 0
RulingCause cells rs o names e cause =
    ObjectCause cells (stepped_again rs) (fixed_of o) names o.journal e cause

-- the entry is ruled as is due, it names an Ask that had no name, and has one from now on
pub record RulesNext (cells : Cells) (before after : List ShardReplay) (o : ObjectSeen)
    (names : List (ℕ × ℕ)) (e : ObjectEntry) : Type 0 where
  pub room : length o.journal < o.limit
  pub ruled : IsRuled cells (stepped_again before) o.plan o.journal e
  pub new : Contains names (named e) → ⊥
  pub sound : AreSound cells.plans (names ++ named e ∷ []) after
  pub journals : stepped_again after ≡ stepped_again before

-- what became of the entries of an object goes on with one entry more, behind whatever objects
abbrev pub RulesOn : (before after : List ShardReplay) (o now : ObjectSeen) → ObjectEntry
    → (fall later : Option Fall) → Type 0
RulesOn before after o now e fall later =
    (cells : Cells) (shards : List (List Entry)) (front : List ObjectJournal) (number : ℕ)
    (entries : List ObjectEntry) → HasBeenRuled cells shards front number entries before o fall →
    HasBeenRuled cells shards front number (entries ++ e ∷ []) after now later
