-- the seats are at this agent and this rack, with these shares
use Rattle.agent_shards.specs.Cells.{shares_of}
use Rattle.lane_tests.proofs.seats.work_at_seat.Given as goal

abbrev pub ghosts-work_seated-A-OfAgent : goal.ghosts-work_seated-A-OfAgent
ghosts-work_seated-A-OfAgent g a = record { cells = a.node.now.agent; shares = shares_of a.seat.passes }

abbrev pub ghosts-work_seated-B-OfRack : goal.ghosts-work_seated-B-OfRack
ghosts-work_seated-B-OfRack g a = record { cells = a.node.now.rack; shares = shares_of a.seat.objects }
