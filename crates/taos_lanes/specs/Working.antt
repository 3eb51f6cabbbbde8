-- What a lane's worker does: connections of its door, each served at the lane's seats.
use Rattle.std.specs.Prelude.{◌≡◌, ℕ, ◌+◌, ◌≤◌, Bool, true, false, List, cond, length, count_by}
use Rattle.frame_link.specs.Doors.{DoorSeen}
use Rattle.frame_link.specs.Faults.{Rose}
use Rattle.frame_link.specs.declared.limits.Limits.{Limits}
use Rattle.frame_link.specs.declared.outcome.Outcome.{Outcome}
use Rattle.frame_link.specs.Served.{Line}
use Rattle.object_core.specs.Shelving.{ShelfSeen}
use Rattle.agent_core.specs.Shards.{ShardsSeen}
use Rattle.taos_monitor.specs.declared.desk.Desk.{Desk}
use Rattle.request_course.specs.Cells.{Node}
use Rattle.request_course.specs.States.{Stays}
use Rattle.taos_monitor.specs.Desk.{state_at, setting_by}
use Rattle.request_course.specs.World.{State, World, fetch_use, reaching_by, state_of}
use Rattle.taos_lanes.specs.declared.sitting.Shared.{Shared}
use Rattle.taos_lanes.specs.declared.tally.Tally.{Tally}
use Rattle.taos_monitor.specs.Changing.{Change, change}
use Rattle.taos_lanes.specs.Telling.{Telling}
use Rattle.taos_lanes.specs.Visits.{Chain, ServesAmong, VisitBy, is_broken, is_lacking}
use Rattle.taos_lanes.specs.Doors.{GoesThrough}
use Rattle.taos_lanes.specs.Workers.{LaneShown, reach_in}

-- what a worker may change: what its connections are answered in, and its door
pub record LaneSeen (S X : Type 0) : Type 0 where
  pub world : S
  pub door : DoorSeen X

-- a lane of these
abbrev pub lane_of : {S X : Type 0} → S → DoorSeen X → LaneSeen S X
lane_of world door = record { world = world; door = door }

-- a lane as it is shown, and what the desk at which its worker sits answers in
pub record Seated (X : Type 0) : Type 0 where
  pub state : State
  pub lane : LaneShown X

-- the same, by the desk
abbrev pub seated_at : {S H B L X : Type 0} → (S → ShardsSeen) → (H → ShelfSeen) →
    (L → LaneShown X) → Desk S H B → L → Seated X
seated_at shards shelf shown desk lane = record {
  state = state_at shards shelf (reach_in shown) desk lane;
  lane = shown lane;
}

-- the same, by what all workers share, and by shards and objects that stand apart
abbrev pub seated_by : {W A R S H L X : Type 0} → (S → ShardsSeen) → (H → ShelfSeen) →
    (L → LaneShown X) → Shared W A R → S → H → L → Seated X
seated_by shards shelf shown shared s h lane = record {
  state = state_of (setting_by shared.keys.now (shards s) (shelf h))
      (reaching_by (shown lane).outside (fetch_use shared.pulls (shown lane).fetch) (shards s) (shelf h));
  lane = shown lane;
}

-- a lane, by what an answer may change
abbrev pub in_world : {X : Type 0} → Seated X → LaneSeen World X
in_world seated = lane_of seated.state.world seated.lane.door

-- what nobody changes did not change: what stays while requests are answered, whether certificates
-- are fetched, and the lane's work
pub record SitsStill {X : Type 0} (before after : Seated X) : Type 0 where
  pub stays : Stays before.state after.state
  pub pulls : after.state.world.fetch.pulls ≡ before.state.world.fetch.pulls
  pub work : after.lane.work ≡ before.lane.work

-- where the door failed its count rose, and else it stayed
abbrev pub HasDoorCause : Bool → ℕ → ℕ → Type 0
HasDoorCause true before after = (before ≤ after) × Rose before after
HasDoorCause false before after = after ≡ before

-- one connection more is counted, by its outcome
pub record CountsOne (outcome : Outcome) (before after : Tally) : Type 0 where
  pub served : after.served ≡ before.served + 1
  pub broken : after.broken ≡ before.broken + cond (is_broken outcome) 1 0
  pub lacked : after.lacked ≡ before.lacked + cond (is_lacking outcome) 1 0
  pub door : after.door_failed ≡ before.door_failed

-- what is counted of these connections, and of whether the door failed at last
abbrev pub tally_of : {S : Type 0} {Serves : Line S → Line S → Outcome → Type 0} {limit : ℕ} →
    List (VisitBy Serves limit) → Bool → Tally
tally_of {S} {Serves} {limit} visits door_failed = record {
  served = length visits;
  broken = count_by (λ (v : VisitBy Serves limit). is_broken v.outcome) visits;
  lacked = count_by (λ (v : VisitBy Serves limit). is_lacking v.outcome) visits;
  door_failed = door_failed;
}

-- The lane served so many connections, or all that its door had, or the door failed; each was served
-- so, from what the one before left, and given back.
pub record ServesDoorBy {In Out S : Type 0} (telling : Telling In Out)
    (Serves : Line S → Line S → Outcome → Type 0) (limits : Limits)
    (lane : Change (LaneSeen S (In × Out))) (tally : Tally) : Type 0 where
  pub visits : List (VisitBy Serves limits.frames)
  pub chain : Chain lane.before.world visits lane.after.world
  pub through : GoesThrough telling limits.connections lane.before.door lane.after.door
      (tally.door_failed ≡ true) visits
  pub counted : tally ≡ tally_of visits tally.door_failed
  pub cause : HasDoorCause tally.door_failed lane.before.door.faults lane.after.door.faults

-- the same of a lane of a node
abbrev pub ServesDoor : {In Out : Type 0} → Telling In Out → Node → Limits →
    Change (LaneSeen World (In × Out)) → Tally → Type 0
ServesDoor telling n limits = ServesDoorBy telling (ServesAmong n limits.frames) limits

-- the same of a lane at seats that it leaves again, with the work that it had
pub record ServesSeats {In Out : Type 0} (telling : Telling In Out) (limits : Limits)
    (before after : Seated (In × Out)) (tally : Tally) : Type 0 where
  pub serves : ServesDoor telling before.state.setting.node limits
      (change (in_world before) (in_world after)) tally
  pub work : after.lane.work ≡ before.lane.work

-- and at a desk, where it sits still
pub record ServesSeated {In Out : Type 0} (telling : Telling In Out) (limits : Limits)
    (before after : Seated (In × Out)) (tally : Tally) : Type 0 where
  pub serves : ServesDoor telling before.state.setting.node limits
      (change (in_world before) (in_world after)) tally
  pub still : SitsStill before after
