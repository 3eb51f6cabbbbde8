-- What the code keeps of a shard that it steps again, and what that stands for.
use Rattle.std.specs.Prelude.{◌≡◌, ◌↔◌, IsTrue, ℕ, List, length, Option, None, Some, slice_get, Contains}
use Rattle.agent_core.specs.declared.told.Told.{Told}
use Rattle.agent_core.specs.State.{Plan, Ask, Asks}
use Rattle.agent_core.specs.Journals.{Entry, entry, IsLegalJournal}
use Rattle.agent_core.specs.Plans.{IsPlan}
use Rattle.audit_replay.specs.declared.due.Due.{Due}
use Rattle.audit_replay.specs.declared.stepping.ShardReplay.{ShardReplay}
use Rattle.audit_replay.specs.Legal.{IsDue, WasJudged}

-- An Ask that was judged stands at the place, this ruling is due to it, and these names have it or
-- not.
pub record IsDueThere (plan : Plan) (journal : List Entry) (names : List (ℕ × ℕ)) (shard place : ℕ)
    (d : Due) : Type 0 where
  pub asked : Ask
  pub told : Told
  pub stands : slice_get journal place ≡ Some (entry (Asks asked) told)
  pub judged : WasJudged told
  pub due : IsDue plan journal place asked d.ruling
  pub named : IsTrue d.named ↔ Contains names (shard, place)

-- the mark stands for what is due at the place: without one, no Ask that was judged stands there
abbrev pub IsMark : Plan → List Entry → List (ℕ × ℕ) → (shard place : ℕ) → Option Due → Type 0
IsMark plan journal names shard place None =
    (a : Ask) (told : Told) → slice_get journal place ≡ Some (entry (Asks a) told) →
    WasJudged told → ⊥
IsMark plan journal names shard place (Some d) = IsDueThere plan journal names shard place d

-- a mark for each entry
pub record AreMarks (plan : Plan) (journal : List Entry) (names : List (ℕ × ℕ)) (shard : ℕ)
    (marks : List (Option Due)) : Type 0 where
  pub counted : length marks ≡ length journal
  pub each : (place : ℕ) (mark : Option Due) → slice_get marks place ≡ Some mark →
      IsMark plan journal names shard place mark

-- The shard of this number, stepped again: its journal is legal, and its marks stand for it.
pub record IsSound (plans : List Plan) (names : List (ℕ × ℕ)) (number : ℕ)
    (r : ShardReplay) : Type 0 where
  pub opened : slice_get plans number ≡ Some r.shard.plan
  pub planned : IsPlan r.shard.plan
  pub legal : IsLegalJournal r.shard.plan r.shard.journal
  pub marks : AreMarks r.shard.plan r.shard.journal names number r.marks.items

-- where no name has the next entry, the shard stays sound
abbrev pub StaysSound : (before after : ShardReplay) → Type 0
StaysSound before after =
    (plans : List Plan) (names : List (ℕ × ℕ)) (number : ℕ) →
    (Contains names (number, length before.shard.journal) → ⊥) →
    IsSound plans names number before → IsSound plans names number after

-- the same of each
abbrev pub AreSound : List Plan → List (ℕ × ℕ) → List ShardReplay → Type 0
AreSound plans names rs =
    (i : ℕ) (r : ShardReplay) → slice_get rs i ≡ Some r → IsSound plans names i r
