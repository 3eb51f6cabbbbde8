-- What the lanes of a node did, from its opening until its cells were closed.
use Rattle.std.specs.Prelude.{◌≡◌, ℕ, ◌==◌, Bool, true, List, [], map, slice_get}
use Rattle.std.specs.List.{position_or_len}
use Rattle.shard_core.specs.Alone.{plans_in, seen_in}
use Rattle.agent_core.specs.Journals.{ShardSeen}
use Rattle.agent_shards.specs.Each.{Each3}
use Rattle.object_core.specs.Objects.{ObjectEntry, ObjectSeen}
use Rattle.object_core.specs.OneOwner.{journal_of}
use Rattle.object_core.specs.Shelving.{fixed_of, numbers_of}
use Rattle.frame_link.specs.declared.limits.Limits.{Limits}
use Rattle.taos_lanes.specs.declared.serving.Served.{Served}
use Rattle.taos_lanes.specs.declared.total.Total.{Total}
use Rattle.taos_lanes.specs.Doors.{GoesThrough}
use Rattle.taos_lanes.specs.Lanes.{LaneRun, ServesAll}
use Rattle.taos_monitor.specs.Changing.{Change}
use Rattle.taos_lanes.specs.Telling.{Telling}
use Rattle.taos_lanes.specs.Totals.{IsSumOf}
use Rattle.taos_lanes.specs.Workers.{LaneShown}
use Rattle.taos_lanes.specs.Working.{HasDoorCause, tally_of}
use Rattle.request_course.specs.Cells.{Node, Journals, Viewed, viewed}
use Rattle.request_course.specs.World.{fetch_use, reaching}

-- the journal of the first object of the number, or no entries where there is none
abbrev pub journal_on : List ObjectSeen → ℕ → List ObjectEntry
journal_on objects number =
    journal_of (slice_get objects
    (position_or_len (λ n. n == number) (numbers_of (map fixed_of objects))))

-- the journals of these shards and objects
abbrev pub journals_of : List ShardSeen → List ObjectSeen → Journals
journals_of shards objects = record { shards = seen_in shards; objects = journal_on objects }

-- nothing is seen of any cell
abbrev pub unseen : {E : Type 0} → Viewed E
unseen = viewed (λ s. []) (λ s. [])

-- what a lane did from before it served until after: it had seen nothing at first, and went through
-- its door
pub record IsRunOf {In Out : Type 0} (telling : Telling In Out) {n : Node} (pulls : Bool)
    (limits : Limits) (before after : LaneShown (In × Out)) (run : LaneRun n limits.frames) :
    Type 0 where
  pub first : run.first ≡ reaching before.outside (fetch_use pulls before.fetch) unseen unseen
  pub outside : run.last.outside ≡ after.outside
  pub fetch : run.last.fetch ≡ fetch_use pulls after.fetch
  pub through : GoesThrough telling limits.connections before.door after.door
      (run.door_failed ≡ true) run.visits
  pub cause : HasDoorCause run.door_failed before.door.faults after.door.faults

-- these are counted
abbrev pub AreCounted : {n : Node} {limit : ℕ} → List (LaneRun n limit) → Total → Type 0
AreCounted {n} {limit} =
    IsSumOf (λ (run : LaneRun n limit). tally_of run.visits run.door_failed)

-- what the lanes of a node leave: the shards and objects with their journals, and what was counted
pub record Left : Type 0 where
  pub shards : List ShardSeen
  pub objects : List ObjectSeen
  pub total : Total

-- the same of what the program has
abbrev pub left_by : Served → Left
left_by s = record { shards = s.shards.items; objects = s.objects.items; total = s.total }

-- The node's lanes served all that stands in the journals of the shards and objects that they left; each
-- fetched certificates, or none did.
pub record ServesNode {In Out : Type 0} (telling : Telling In Out) (n : Node) (pulls : Bool)
    (limits : Limits) (lanes : Change (List (LaneShown (In × Out)))) (left : Left) : Type 0 where
  pub runs : List (LaneRun n limits.frames)
  pub each : Each3 (IsRunOf telling pulls limits) lanes.before lanes.after runs
  pub serves : ServesAll (journals_of left.shards left.objects) runs
  pub plans : plans_in left.shards ≡ n.plans
  pub fixed : map fixed_of left.objects ≡ n.objects
  pub counted : AreCounted runs left.total
