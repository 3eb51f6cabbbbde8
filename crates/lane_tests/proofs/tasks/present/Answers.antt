use Rattle.std.proofs.Common.{ℕ, subst, sym}
use Rattle.lane_tests.specs.Seats.{HasChannel}
use Rattle.lane_tests.proofs.tasks.present.Goals as goal

-- the channel of each ask is 2
pub ask_once-requires-clause-planned : goal.ask_once-requires-clause-planned
ask_once-requires-clause-planned g c κs within =
    subst (λ (n : ℕ). HasChannel (g.S.Shards.shown c.loop-more.shards).plans n) (sym c.in_ok-made.ensures.channel) c.loop-more.invariant
