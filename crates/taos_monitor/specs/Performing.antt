-- What is promised of a granted operation: how its steps in the shards end, as the program says, and what is due there.
use Rattle.std.specs.Prelude.{◌≡◌, ◌↔◌, ℕ, ◌+◌, ◌<◌, ◌≤◌, ◌^◌, Bool, IsTrue, List, [], length, map, Option, None, Some, slice_get, All}
use Rattle.std.specs.List.{range_with_len}
use Rattle.std.specs.Option.{option_map}
use Rattle.object_core.specs.Operation.{Op, Discard}
use Rattle.object_core.specs.declared.ruling.Ruling.{Ruling}
use Rattle.object_core.specs.declared.ruling.Ruling.TheVariants as rulings
use Rattle.stmt_codec.specs.Certificates.{Certificate}
use Rattle.taos_wire.specs.Reply as replies
use Rattle.taos_wire.specs.Reply.{Reply}
use Rattle.agent_core.specs.declared.event.Event.{Event as EventValue}
use Rattle.agent_core.specs.declared.told.Told.{Told}
use Rattle.agent_core.specs.Answers.{FitsEvent}
use Rattle.agent_core.specs.State.{Plan, Event}
use Rattle.agent_core.specs.Journals.{Entry, entry}
use Rattle.agent_core.specs.Shards.{ShardsSeen}
use Rattle.agent_core.specs.Steps.{JournalSeen, Other, StepsTo, StepRefused}
use Rattle.agent_core.specs.Views.{event_of}
use Rattle.taos_monitor.specs.declared.stepping.Went.{Went}
use Rattle.taos_monitor.specs.declared.stepping.Went.TheVariants as went
use Rattle.taos_monitor.specs.declared.performing.Effected.{Effected}
use Rattle.taos_monitor.specs.declared.performing.Effected.TheVariants as effected
use Rattle.taos_monitor.specs.declared.due.Due.{Due}
use Rattle.request_course.specs.Cells.{ShardsGoOn, AreLegalShards, shards_in}
use Rattle.request_course.specs.Operations.{effect_of, targets_of, IsEffect}
use Rattle.request_course.specs.Effects.{FoundNoPlace, FoundNoRoom, IsDone, IsPerformed, LetsGo, ShardStep, WantsRoom, WentThrough, its_place, removed_by}

-- ---- one step

-- how the step of an effect went, as the program says: it was done, or there was no room for what
-- the event brings, or for an entry
abbrev pub WentAs : Plan → JournalSeen → JournalSeen → Event → Went → Type 0
WentAs plan earlier later event (went.Done removed) =
    (place : ℕ) × (told : Told) × StepsTo plan earlier later event place (Other told)
    × IsDone told × (removed ≡ removed_by told)
WentAs plan earlier later event (went.NoRoom told) =
    (place : ℕ) × StepsTo plan earlier later event place (Other told) × WantsRoom told
WentAs plan earlier later event (went.Full n) =
    StepRefused plan earlier later × (length later.journal ≡ plan.limit) × (n ≡ plan.limit)

-- ---- all steps

module _ (journals : ℕ → List Entry) (effect : Option Event) where
  -- how the steps at these shards ended, as the program says
  abbrev pub EndAs : List Plan → List ℕ → List ShardStep → Effected → Type 0
  EndAs plans shards steps (effected.Through removed) =
      WentThrough journals effect shards steps × (IsTrue removed ↔ LetsGo steps)
  EndAs plans shards steps (effected.NoRoom shard told) =
      FoundNoRoom journals effect shards steps shard told × WantsRoom told
  EndAs plans shards steps (effected.Full shard limit) =
      FoundNoPlace journals effect plans shards steps shard limit

-- a granted operation is performed so, and one that is denied not at all
abbrev pub PerformedAs : Ruling → (List ShardStep → Option Reply → Type 0) →
    List ShardStep → Option Reply → Type 0
PerformedAs (rulings.Granted entry) Performed steps refused = Performed steps refused
PerformedAs rulings.Denied Performed steps refused = (steps ≡ []) × (refused ≡ None)

-- whether the reply says that no shard held the certificate: so it is where none was let go, and
-- the operation was to let one go
abbrev pub TellsHeld : Op → Bool → Option Reply → Type 0
TellsHeld op removed None = (digest : List ℕ) → op ≡ Discard digest → IsTrue removed
TellsHeld op removed (Some reply) =
    (digest : List ℕ) × (op ≡ Discard digest) × (IsTrue removed → ⊥)
    × (reply ≡ replies.NotHeld digest)

-- what was seen of the shards went on by the steps of an effect, of which this holds
pub record SteppedBy (before after : ShardsSeen) (Ends : List ShardStep → Type 0) :
    Type 0 where
  pub steps : List ShardStep
  pub goes_on : ShardsGoOn before.alone (shards_in before) (shards_in after) (map its_place steps)
  pub legal : AreLegalShards before.plans after.seen
  pub ends : Ends steps

-- ---- what is due

-- the effect that is due; none where no shard is to be stepped
abbrev pub effect_due : Due → Option Event
effect_due due = option_map event_of (slice_get due.events.items 0)

-- the shards that are due, in order
abbrev pub shards_due : Due → List ℕ
shards_due due = range_with_len due.first (length due.events.items)

-- the event is the effect, and a shard may be stepped by it
pub record CanStep (effect : Option Event) (e : EventValue) : Type 0 where
  pub same : effect ≡ Some (event_of e)
  pub is_effect : IsEffect (event_of e)
  pub fits : FitsEvent (event_of e)

-- the shards that are due are there, and each can be stepped by the effect
pub record IsReady (plans : List Plan) (due : Due) : Type 0 where
  pub within : due.first + length due.events.items ≤ length plans
  -- their numbers fit 32 bits
  pub small : due.first + length due.events.items < 2 ^ 32
  pub each : All (CanStep (effect_due due)) due.events.items

-- what is due is the effect of the operation, at its shards
pub record IsDueOf (plans : List Plan) (op : Op) (certs : List Certificate) (reading : ℕ)
    (due : Due) : Type 0 where
  pub effect_is : effect_due due ≡ effect_of op certs reading
  pub shards_are : shards_due due ≡ targets_of plans op

-- ---- the whole

-- what is due for a granted operation was done, and the reply is this where it is not the grant's
abbrev pub Performs : (before after : ShardsSeen) → Op → Due → Option Reply → Type 0
Performs before after op due refused =
    (certs : List Certificate) (reading : ℕ) → IsDueOf before.plans op certs reading due →
    SteppedBy before after (λ steps.
    IsPerformed before.plans after.seen op (effect_of op certs reading) steps refused)

-- the same of an operation with this ruling
abbrev pub PerformsRuled : (before after : ShardsSeen) → Op → Due → Ruling → Option Reply → Type 0
PerformsRuled before after op due ruling refused =
    (certs : List Certificate) (reading : ℕ) → IsDueOf before.plans op certs reading due →
    SteppedBy before after (λ steps. PerformedAs ruling
    (IsPerformed before.plans after.seen op (effect_of op certs reading)) steps refused)
