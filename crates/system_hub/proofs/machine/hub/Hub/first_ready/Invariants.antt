-- Those who were not ready have passed, and nothing happened.
use Rattle.std.proofs.Common.{[], length}
use Rattle.system_hub.specs.Calls.{Follows, HasRoom, turns_at}
use Rattle.system_hub.specs.Seating.{KeepsSeats}
use Rattle.system_hub.proofs.machine.hub.Hub.first_ready.Given as goal

abbrev pub invariant-loop-client : goal.invariant-loop-client
invariant-loop-client l = record {
  follows : Follows l.fn.self l.self [];
  room : HasRoom l.lane l.fn.self → HasRoom l.lane l.self;
  seats : KeepsSeats l.fn.self l.self;
}

abbrev pub decreases-loop-client : goal.decreases-loop-client
decreases-loop-client l = length (turns_at l.lane l.self)
