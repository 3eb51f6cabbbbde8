use Rattle.goal_search.specs.Replaying.{IsOrder}
use Rattle.goal_search.proofs.replay.order_of.Given as goal

abbrev pub invariant-loop-place : goal.invariant-loop-place
invariant-loop-place l = IsOrder l.cells l.last l.order.items l.place
