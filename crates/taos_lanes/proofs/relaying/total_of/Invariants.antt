use Rattle.std.proofs.Common.{take}
use Rattle.taos_lanes.specs.Totals.{IsSumOf}
use Rattle.taos_lanes.proofs.Totals.{IsSmall}
use Rattle.taos_lanes.proofs.relaying.total_of.Given as goal

abbrev pub invariant-loop-lane : goal.invariant-loop-lane
invariant-loop-lane g l = record {
  sum : IsSumOf (λ lane. (g.L.Worker.shown lane).tally) (take l.lane-index l.fn.lanes) l.total;
  small : IsSmall l.lane-index l.total;
}
