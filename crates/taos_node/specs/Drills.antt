-- What a drill does: the lanes of a node that the load opens serve the load.
use Rattle.std.specs.Prelude.{◌≡◌, ℕ, false, ◌<◌, List, [], ◌∷◌, ◌++◌, length, map, None, Option, Some}
use Rattle.std.specs.Io.KnownBytes.{Appends, Keeps}
use Rattle.std.specs.List.{All, AllZip, range_with_len}
use Rattle.frame_link.specs.Doors.{DoorSeen, door_of}
use Rattle.node_journals.specs.Counts.{CountsLoad}
use Rattle.node_journals.specs.Lanes.{HadMemory}
use Rattle.frame_link.specs.declared.outcome.Outcome.TheVariants.{End}
use Rattle.frame_link.specs.Plan.{plan_of}
use Rattle.frame_link.specs.Faults.{Rose}
use Rattle.frame_link.specs.Hall.{Hall, shown_hall}
use Rattle.frame_link.specs.Relay.{link}
use Rattle.frame_link.specs.Streams.{stream}
use Rattle.frame_link.specs.Supply.{Supply}
use Rattle.frame_link.specs.Times.{Times}
use Rattle.cred_pull.specs.Fetching.{fetch_of}
use Rattle.taos_drill.specs.declared.numbers.TheConstants.{READING}
use Rattle.taos_drill.specs.Grown.{Grown}
use Rattle.taos_drill.specs.Opened.{drill_opening}
use Rattle.taos_drill.specs.Sent.{drill_streams, payload_of, requests_of}
use Rattle.frame_link.specs.declared.limits.Limits.{Limits}
use Rattle.taos_lanes.specs.declared.lane.Lane.{Lane}
use Rattle.taos_lanes.specs.Lanes.{LaneRun}
use Rattle.taos_lanes.specs.Serving.{Left}
use Rattle.taos_lanes.specs.Workers.{LaneShown, shown_by}
use Rattle.taos_monitor.specs.Changing.{Change}
use Rattle.taos_lanes.specs.Telling.{Telling, told_by}
use Rattle.taos_lanes.specs.Visits.{Visit}
use Rattle.request_course.specs.Cells.{Node}
use Rattle.taos_node.specs.declared.drills.serving.DrillEnd.{DrillEnd}
use Rattle.taos_node.specs.declared.drills.serving.DrillEnd.TheVariants as drill
use Rattle.taos_lanes.specs.Opened.{ServesOpening}
use Rattle.taos_lanes.specs.Summary.{drill_line}
use Rattle.node_commands.specs.Words.{DrillWords}

-- a connection of a drill: bytes in memory, and a sink that grows
abbrev pub Wire : Type 0
Wire = Supply × Grown

-- a connection that has these bytes to read, and nothing written
abbrev pub wire : List ℕ → Wire
wire bytes =
    (record { left = bytes; chunks = []; plan = plan_of [] }, record { written = []; faults = 0 })

-- how it is told
abbrev pub wire_told : Telling Supply Grown
wire_told =
    told_by (λ s. stream (Some s.left) s.plan.faults) (λ s. stream (Some s.written) s.faults)

-- the door has one connection, which has these bytes to read
abbrev pub door_with : List ℕ → DoorSeen Wire
door_with bytes = door_of (Some (wire bytes ∷ [])) (Some []) 0 0

-- the lane reads one time always, has no relay and no wallet, and its door has these bytes
pub record IsDrillLane (bytes : List ℕ) (lane : LaneShown Wire) : Type 0 where
  pub clock : lane.outside.clock ≡ stream (Some (READING ∷ [])) 0
  pub link : lane.outside.link ≡ link None 0 0
  pub door : lane.door ≡ door_with bytes
  pub fetch : lane.fetch ≡ fetch_of None 0

-- the lanes are those of the load, in order
abbrev pub AreDrillLanes : List (List ℕ) → List (LaneShown Wire) → Type 0
AreDrillLanes [] [] = Unit {0}
AreDrillLanes (bytes ∷ streams) (lane ∷ lanes) = IsDrillLane bytes lane × AreDrillLanes streams lanes
AreDrillLanes _ _ = ⊥

-- one connection of each lane, with as many frames as the load has
abbrev pub drill_limits : DrillWords → Limits
drill_limits d = record { connections = 1; frames = d.requests }

-- a lane of a drill, as contracts see it
abbrev pub drill_shown : Lane Times ℕ (Hall Wire) ℕ Supply Grown → LaneShown Wire
drill_shown =
    shown_by (λ (c : Times). stream (Some c.readings) c.plan.faults) (λ (r : ℕ). link None r r)
    (λ (d : Hall Wire). shown_hall d) (λ (f : ℕ). fetch_of None f)

-- a node that the load opens served the lanes of the load, and left this
pub record ServesDrill (d : DrillWords) (l : Left) : Type 0 where
  pub lanes : Change (List (LaneShown Wire))
  pub are : AreDrillLanes (drill_streams d.seed d.requests d.lanes) lanes.before
  pub serves : ServesOpening wire_told (drill_opening d.seed d.requests d.lanes) false (drill_limits d)
      lanes l

-- the payloads of the requests of each lane, in order
abbrev pub load_of : DrillWords → List (List (List ℕ))
load_of d =
    map (λ lane. map (payload_of d.seed d.lanes) (requests_of d.requests d.lanes lane))
    (range_with_len 0 d.lanes)

-- the lane served one connection, which was these payloads, all and in order, and ended behind them
pub record AnswersAll {n : Node} {limit : ℕ} (payloads : List (List ℕ)) (run : LaneRun n limit) :
    Type 0 where
  pub visit : Visit n limit
  pub one : run.visits ≡ visit ∷ []
  pub all : visit.connects.connection.served.payloads ≡ payloads
  pub ended : visit.outcome ≡ End (length payloads)

-- no reply of these lanes says that memory was refused
abbrev pub HaveMemory : {n : Node} {limit : ℕ} → List (LaneRun n limit) → Type 0
HaveMemory {n} {limit} runs =
    All (λ (run : LaneRun n limit).
    All (λ (v : Visit n limit). HadMemory v) run.visits) runs

-- What a drill came to, where each lane answered all its requests. Where no reply says that memory
-- was refused, even words are grants and odd ones denials, and the entries are counted.
pub record Came (d : DrillWords) (l : Left) : Type 0 where
  pub serves : ServesDrill d l
  pub all : AllZip AnswersAll (load_of d) serves.serves.serves.runs
  pub counts : HaveMemory serves.serves.serves.runs → CountsLoad d l.shards l.objects

-- What a drill prints, by how it ends: the line of what it came to, or a proper front of it; nothing
-- where memory was refused.
abbrev pub Drills : DrillWords → (out0 out1 : Option (List ℕ)) → DrillEnd → Type 0
Drills d out0 out1 drill.Done = (l : Left) × Came d l × Appends out0 out1 (drill_line d.requests l)
Drills d out0 out1 drill.WriteFault =
    (l : Left) × Came d l
    × ((part more : List ℕ) × (drill_line d.requests l ≡ part ++ more) × (0 < length more)
    × Appends out0 out1 part)
Drills d out0 out1 drill.NoMemory = Keeps out0 out1

-- the output's count rose where its fault is answered, and else stayed
abbrev pub DrillCauses : ℕ → ℕ → DrillEnd → Type 0
DrillCauses out0 out1 drill.WriteFault = Rose out0 out1
DrillCauses out0 out1 other = out1 ≡ out0
