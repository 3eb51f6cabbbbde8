-- The steps of a granted operation in the shards, and how they end.
use Rattle.std.specs.Prelude.{◌≡◌, ℕ, ◌+◌, ◌<◌, List, [], ◌∷◌, ◌++◌, length, map, Option, None, Some, IsSome, slice_get, All}
use Rattle.std.specs.List.{sum_by}
use Rattle.object_core.specs.Operation.{Op, Discard}
use Rattle.taos_wire.specs.Reply as replies
use Rattle.taos_wire.specs.Reply.{Reply}
use Rattle.agent_core.specs.declared.told.Told.{Told}
use Rattle.agent_core.specs.State.{Plan, Event}
use Rattle.agent_core.specs.Journals.{Entry, entry, Stands}
use Rattle.request_course.specs.Cells.{Place, in_shard}
use Rattle.request_course.specs.Asking.{shard_full}
use Rattle.request_course.specs.Operations.{targets_of}

-- ---- one step

-- the shard did what the event asks
abbrev pub IsDone : Told → Type 0
IsDone (Told.Held added) = Unit {0}
IsDone (Told.Removed count) = Unit {0}
IsDone _ = ⊥

-- how many certificates were let go
abbrev pub removed_by : Told → ℕ
removed_by (Told.Removed count) = count
removed_by _ = 0

-- the reply where a shard was told this for want of room, in place of doing what the event asks
abbrev pub lacks_room : (shard : ℕ) → Told → Option Reply
lacks_room shard (Told.CommonsFull held) = Some (replies.CommonsFull held shard)
lacks_room shard (Told.WithdrawnFull held) = Some (replies.WithdrawnFull held shard)
lacks_room shard _ = None

-- this is told for want of room
abbrev pub WantsRoom : Told → Type 0
WantsRoom told = (shard : ℕ) → IsSome (lacks_room shard told)

-- ---- all steps

-- a step in the journal of a shard
pub record ShardStep : Type 0 where
  pub shard : ℕ
  pub place : ℕ
  pub told : Told

-- the step of these
abbrev pub step_at : ℕ → ℕ → Told → ShardStep
step_at shard place told = record { shard = shard; place = place; told = told }

-- the place of the step
abbrev pub its_place : ShardStep → Place
its_place s = in_shard s.shard s.place

-- the shards that were stepped, in order
abbrev pub shards_of : List ShardStep → List ℕ
shards_of steps = map (λ (s : ShardStep). s.shard) steps

-- some certificate was let go in these steps
abbrev pub LetsGo : List ShardStep → Type 0
LetsGo steps = 0 < sum_by (λ (s : ShardStep). removed_by s.told) steps

-- the step is one of the effect, and stands in the journal of its shard
pub record IsStep (journals : ℕ → List Entry) (effect : Option Event) (s : ShardStep) :
    Type 0 where
  pub event : Event
  pub effect_is : effect ≡ Some event
  -- the entries before it
  pub before : List Entry
  pub stands : Stands (journals s.shard) s.place before (entry event s.told)

module _ (journals : ℕ → List Entry) (effect : Option Event) where
  -- these are steps of the effect, each of which was done
  pub record AreDone (steps : List ShardStep) : Type 0 where
    pub stand : All (IsStep journals effect) steps
    pub done : All (λ (s : ShardStep). IsDone s.told) steps

  -- each of the shards was stepped, in order
  pub record WentThrough (shards : List ℕ) (steps : List ShardStep) : Type 0 where
    pub order : shards_of steps ≡ shards
    pub are_done : AreDone steps

  -- the shard of this number did not do it, and was told this; those before were stepped, and
  -- those after it were not
  pub record FoundNoRoom (shards : List ℕ) (steps : List ShardStep) (shard : ℕ) (told : Told) :
      Type 0 where
    pub done : List ShardStep
    pub place : ℕ
    pub rest : List ℕ
    pub order : shards ≡ shards_of done ++ shard ∷ rest
    pub are_done : AreDone done
    pub steps_are : steps ≡ done ++ step_at shard place told ∷ []
    pub refused : IsStep journals effect (step_at shard place told)

  -- the journal of the shard of this number stands at its limit; those before were stepped, and
  -- neither it nor those after it were
  pub record FoundNoPlace (plans : List Plan) (shards : List ℕ) (steps : List ShardStep)
      (shard limit : ℕ) : Type 0 where
    pub rest : List ℕ
    pub order : shards ≡ shards_of steps ++ shard ∷ rest
    pub are_done : AreDone steps
    pub plan : Plan
    pub planned : slice_get plans shard ≡ Some plan
    pub limit_is : limit ≡ plan.limit
    pub full : length (journals shard) ≡ plan.limit

-- what came of a granted operation with this effect in the shards: the steps, and the reply where the
-- grant is not told
pub data IsPerformed (plans : List Plan) (journals : ℕ → List Entry) (op : Op)
    (effect : Option Event) : List ShardStep → Option Reply → Type 0 where
  through : {steps : List ShardStep} →
      WentThrough journals effect (targets_of plans op) steps →
      ((digest : List ℕ) → op ≡ Discard digest → LetsGo steps) →
      IsPerformed plans journals op effect steps None
  not_held : {steps : List ShardStep} (digest : List ℕ) → op ≡ Discard digest →
      WentThrough journals effect (targets_of plans op) steps →
      (LetsGo steps → ⊥) →
      IsPerformed plans journals op effect steps (Some (replies.NotHeld digest))
  no_room : {steps : List ShardStep} {shard : ℕ} {told : Told} {reply : Reply} →
      lacks_room shard told ≡ Some reply →
      FoundNoRoom journals effect (targets_of plans op) steps shard told →
      IsPerformed plans journals op effect steps (Some reply)
  no_place : {steps : List ShardStep} {shard limit : ℕ} →
      FoundNoPlace journals effect plans (targets_of plans op) steps shard limit →
      IsPerformed plans journals op effect steps (Some (shard_full shard limit))
