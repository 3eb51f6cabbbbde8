-- The lanes of a drill, each of which answered all its requests.
use Rattle.std.specs.Prelude.{◌≡◌, ◌≢◌, ℕ, false, List, [], ◌∷◌, length, map, All, Some}
use Rattle.frame_link.specs.declared.outcome.Outcome.TheVariants.{End}
use Rattle.frame_link.specs.Served.{replies_of}
use Rattle.node_commands.specs.Words.{DrillWords}
use Rattle.taos_drill.specs.declared.numbers.TheConstants.{READING}
use Rattle.taos_drill.specs.Sent.{payload_of, requests_of}
use Rattle.taos_lanes.specs.Lanes.{LaneRun}
use Rattle.taos_lanes.specs.Visits.{Visit}
use Rattle.request_course.specs.Cells.{Node}
use Rattle.taos_wire.specs.Reply.{NoMemory, Sent, spelling}

-- no reply of the connection says that memory was refused
abbrev pub HadMemory : {n : Node} {limit : ℕ} → Visit n limit → Type 0
HadMemory v =
    All (λ (bytes : List ℕ). (s : Sent) → bytes ≡ spelling s → s.reply ≢ NoMemory)
    (replies_of v.connects.connection.served.turns)

-- the payloads of a lane's requests, in order
abbrev pub lane_load : DrillWords → ℕ → List (List ℕ)
lane_load d lane = map (payload_of d.seed d.lanes) (requests_of d.requests d.lanes lane)

-- The lane of this number read one time always, and fetched nothing. It served one connection, which was the payloads of
-- its requests, all and in order, and no reply says that memory was refused.
pub record AnswersLane {n : Node} {limit : ℕ} (d : DrillWords) (lane : ℕ) (run : LaneRun n limit) :
    Type 0 where
  pub clock : run.first.outside.clock.told ≡ Some (READING ∷ [])
  pub unfetched : run.first.fetch.pulls ≡ false
  pub visit : Visit n limit
  pub one : run.visits ≡ visit ∷ []
  pub all : visit.connects.connection.served.payloads ≡ lane_load d lane
  pub ended : visit.outcome ≡ End (length (lane_load d lane))
  pub memory : HadMemory visit
