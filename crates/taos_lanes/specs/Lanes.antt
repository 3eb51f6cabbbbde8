-- Lanes that serve connections at seats of one node's cells.
use Rattle.std.specs.Prelude.{◌≡◌, ℕ, Bool, List, [], All, sum_by}
use Rattle.std.specs.List.{flat_map}
use Rattle.turn_cell.specs.Journal.{once_within, HasEach}
use Rattle.request_course.specs.Cells.{Node, Journals, Cell, entries_in, AreLegal, Extends}
use Rattle.request_course.specs.World.{World}
use Rattle.taos_lanes.specs.Visits.{Visit, Chain, left, AnsweredIn, times_own}

-- a lane of a node: what it began with and came to, by its connections, in order
pub record LaneRun (n : Node) (limit : ℕ) : Type 0 where
  pub first : World
  pub last : World
  pub visits : List (Visit n limit)
  pub chain : Chain first visits last
  -- whether its door failed at last
  pub door_failed : Bool

module _ {n : Node} {limit : ℕ} where
  -- how often a place of a cell is own of the lane's connections
  abbrev pub times_in_lane : Cell → ℕ → LaneRun n limit → ℕ
  times_in_lane cell place lane = sum_by (times_own cell place) lane.visits

  -- what the lanes' seats have as their own in the cell
  abbrev pub owned_in : Cell → List (LaneRun n limit) → List ℕ
  owned_in cell lanes = flat_map (λ (lane : LaneRun n limit). lane.last.seen.own cell) lanes

  -- a lane began with no own place
  abbrev pub IsFresh : LaneRun n limit → Type 0
  IsFresh lane = (cell : Cell) → lane.first.seen.own cell ≡ []

  -- each connection of the lane is answered in the journals
  abbrev pub IsLaneAnswered : Journals → LaneRun n limit → Type 0
  IsLaneAnswered J lane = All (AnsweredIn J) lane.visits

  -- the journals begin with what the lane saw of them at last, and with what each of its connections
  -- had seen when it ended
  pub record SawBegins (J : Journals) (lane : LaneRun n limit) : Type 0 where
    pub last : Extends lane.last.seen.journals J
    pub each : All (λ (v : Visit n limit). Extends (left v).seen.journals J) lane.visits

  -- The whole: the journals are legal, each connection of each lane is answered in them by its own
  -- places, and each place of each cell is own of one connection, once.
  pub record ServesAll (J : Journals) (lanes : List (LaneRun n limit)) : Type 0 where
    pub legal : AreLegal n J
    pub begin : All (SawBegins J) lanes
    pub answered : All (IsLaneAnswered J) lanes
    pub one_owner : (cell : Cell) (place : ℕ) →
        sum_by (times_in_lane cell place) lanes ≡ once_within 0 (entries_in J cell) place

  -- what joined passes and closed cells tell: each lane began with no own place and has seen a
  -- beginning of the journals, and each place there is own of one lane's seat, once
  pub record AreClosed (J : Journals) (lanes : List (LaneRun n limit)) : Type 0 where
    pub legal : AreLegal n J
    pub fresh : All IsFresh lanes
    pub begin : All (λ (lane : LaneRun n limit). Extends lane.last.seen.journals J) lanes
    pub owned : (cell : Cell) → HasEach 0 (entries_in J cell) (owned_in cell lanes)
