use Rattle.lane_tests.specs.Seats.{HasChannel}
use Rattle.lane_tests.proofs.tasks.present.Given as goal

abbrev pub invariant-loop-more : goal.invariant-loop-more
invariant-loop-more g l = HasChannel (g.S.Shards.shown l.shards).plans 2
