-- Lanes whose connections a relay serves.
use Rattle.std.specs.Prelude.{◌≡◌, ℕ, Bool, true, List}
use Rattle.agent_shards.specs.Each.{Each3}
use Rattle.frame_link.specs.declared.outcome.Outcome.{Outcome}
use Rattle.frame_link.specs.Served.{Line, IsServed, HasCauses, IsComplete}
use Rattle.relay_core.specs.declared.resealing.RelayTable.{RelayTable}
use Rattle.relay_core.specs.Serving.{Answers, GivesUp}
use Rattle.frame_link.specs.declared.limits.Limits.{Limits}
use Rattle.taos_lanes.specs.declared.tally.Tally.{Tally}
use Rattle.taos_lanes.specs.declared.total.Total.{Total}
use Rattle.taos_lanes.specs.Doors.{GoesThrough}
use Rattle.taos_monitor.specs.Changing.{Change, change}
use Rattle.taos_lanes.specs.Telling.{Telling}
use Rattle.taos_lanes.specs.Totals.{IsSumOf}
use Rattle.taos_lanes.specs.Visits.{Chain, VisitBy}
use Rattle.taos_lanes.specs.Workers.{LaneShown, HasOtherDoor}
use Rattle.taos_lanes.specs.Working.{HasDoorCause, ServesDoorBy, lane_of, tally_of}

-- How a relay serves a connection, with the cause of its outcome. It has no clock, so none fails.
pub record ServesRelayed (limit : ℕ) (before after : Line RelayTable) (outcome : Outcome) :
    Type 0 where
  pub served : IsServed Answers GivesUp limit before after outcome
  pub causes : HasCauses (λ _. 0) before after outcome
  pub complete : IsComplete (λ _. 0) limit before after outcome

-- a connection that a relay served
abbrev pub RelayVisit : ℕ → Type 0
RelayVisit limit = VisitBy (ServesRelayed limit) limit

-- a lane of a relay: its connections, in order
pub record RelayRun (limit : ℕ) : Type 0 where
  pub visits : List (RelayVisit limit)
  -- whether its door failed at last
  pub door_failed : Bool

-- The lane served connections of its door by this table, and so many were counted.
pub record RelaysDoor {In Out : Type 0} (telling : Telling In Out) (table : RelayTable)
    (limits : Limits) (before after : LaneShown (In × Out)) (tally : Tally) : Type 0 where
  pub same : HasOtherDoor before after
  pub serves : ServesDoorBy telling (ServesRelayed limits.frames) limits
      (change (lane_of table before.door) (lane_of table after.door)) tally

-- and it keeps the count
abbrev pub RelaysLane : {In Out : Type 0} → Telling In Out → RelayTable → Limits →
    (before after : LaneShown (In × Out)) → Type 0
RelaysLane telling table limits before after =
    RelaysDoor telling table limits before after after.tally

-- what a lane did from before until after: it went through its door, and each connection was served
-- by this table, which stayed as it is
pub record IsRelayRunOf {In Out : Type 0} (telling : Telling In Out) (table : RelayTable)
    (limits : Limits) (before after : LaneShown (In × Out)) (run : RelayRun limits.frames) :
    Type 0 where
  pub same : HasOtherDoor before after
  pub chain : Chain table run.visits table
  pub through : GoesThrough telling limits.connections before.door after.door
      (run.door_failed ≡ true) run.visits
  pub cause : HasDoorCause run.door_failed before.door.faults after.door.faults

-- these are counted
abbrev pub AreRelaysCounted : {limit : ℕ} → List (RelayRun limit) → Total → Type 0
AreRelaysCounted {limit} =
    IsSumOf (λ (run : RelayRun limit). tally_of run.visits run.door_failed)

-- A relay that has this table served the doors of its lanes: each connection that a door gave was
-- answered by the table, and given back.
pub record RelaysLanes {In Out : Type 0} (telling : Telling In Out) (table : RelayTable)
    (limits : Limits) (lanes : Change (List (LaneShown (In × Out)))) (total : Total) :
    Type 0 where
  pub runs : List (RelayRun limits.frames)
  pub each : Each3 (IsRelayRunOf telling table limits) lanes.before lanes.after runs
  pub counted : AreRelaysCounted runs total
