-- Shards side by side: what is shown of them, and what a step of one does.
use Rattle.std.specs.Prelude.{◌≡◌, ◌≢◌, ℕ, ◌<◌, Bool, List, length, Some, slice_get, All, Result, IfOk, OnErr}
use Rattle.agent_core.specs.declared.told.Answer.{Answer}
use Rattle.agent_core.specs.Answers.{FitsEvent, SteppedTo, TakesMemory}
use Rattle.agent_core.specs.Journals.{Entry, IsLegalJournal, IsMeant, told_at}
use Rattle.agent_core.specs.Plans.{IsPlan, home}
use Rattle.agent_core.specs.State.{Plan, Event}
use Rattle.agent_core.specs.Steps.{JournalSeen, StepRefused}

-- the shards of a node as contracts see them, by their numbers
pub record ShardsSeen : Type 0 where
  -- what each was opened with
  pub plans : List Plan
  -- whether nobody else steps them
  pub alone : Bool
  -- what was seen of the journal of each
  pub seen : ℕ → List Entry
  -- the own places in it
  pub own : ℕ → List ℕ

-- the shard of this number has this plan
abbrev pub HasPlanAt : ShardsSeen → ℕ → Plan → Type 0
HasPlanAt s number plan = slice_get s.plans number ≡ Some plan

-- what is seen of the shard of this number
abbrev pub shard_at : ShardsSeen → ℕ → JournalSeen
shard_at s number = record { alone = s.alone; journal = s.seen number; own = s.own number }

-- the event is meant at the shard of this number
abbrev pub IsMeantAt : ShardsSeen → ℕ → Event → Type 0
IsMeantAt s number event =
    (plan : Plan) → HasPlanAt s number plan → IsMeant plan (s.seen number) event

-- the shard of this number may be stepped by the event: it is there, and the event is meant at it
-- and within the limits
abbrev pub MayStepAt : ShardsSeen → ℕ → Event → Type 0
MayStepAt s number event =
    (number < length s.plans) × IsMeantAt s number event × FitsEvent event

-- the number of the shard of a channel
abbrev pub home_of : ShardsSeen → ℕ → ℕ
home_of s channel = home s.plans channel

-- this holds of the plan of the channel's shard, and of what is seen of it before and after
abbrev pub AtHome : (before after : ShardsSeen) → ℕ →
    (Plan → JournalSeen → JournalSeen → Type 0) → Type 0
AtHome before after channel Holds =
    (plan : Plan) → HasPlanAt before (home_of before channel) plan →
    Holds plan (shard_at before (home_of before channel)) (shard_at after (home_of before channel))

-- the journal of each shard that has a plan is legal
abbrev pub AreLegalShards : List Plan → (ℕ → List Entry) → Type 0
AreLegalShards plans journals =
    (s : ℕ) (plan : Plan) → slice_get plans s ≡ Some plan → IsLegalJournal plan (journals s)

-- what is always so of shards
pub record AreSoundShards (s : ShardsSeen) : Type 0 where
  pub some : 0 < length s.plans
  pub sound : All IsPlan s.plans
  pub legal : AreLegalShards s.plans s.seen

-- what never changes of the shards stays, and so does what is seen of each but one
pub record LeavesShards (before after : ShardsSeen) (number : ℕ) : Type 0 where
  pub plans : after.plans ≡ before.plans
  pub alone : after.alone ≡ before.alone
  pub others : (n : ℕ) → n ≢ number →
      (after.seen n ≡ before.seen n) × (after.own n ≡ before.own n)

-- a step of a shard with this plan, by what is seen of it before and after
pub record StepsShard {E : Type 0} (plan : Plan) (earlier later : JournalSeen) (event : Event)
    (r : Result (ℕ × Answer) E) : Type 0 where
  -- a step that succeeds adds an entry, or finds the journal full
  pub steps : IfOk r (λ x. SteppedTo plan earlier later event x.0 x.1)
  -- a step that fails adds none
  pub refused : OnErr r (StepRefused plan earlier later)
  -- it fails only where something is kept or handed out
  pub wanted : OnErr r (TakesMemory (told_at plan later.journal event))
  -- it fails only where the journal has room
  pub room : OnErr r (length later.journal < plan.limit)

-- a step of the shard of this number, among the others, which stay as they were
pub record StepsAmong {E : Type 0} (before after : ShardsSeen) (number : ℕ) (event : Event)
    (r : Result (ℕ × Answer) E) : Type 0 where
  pub here : (plan : Plan) → HasPlanAt before number plan →
      StepsShard plan (shard_at before number) (shard_at after number) event r
  pub rest : LeavesShards before after number
