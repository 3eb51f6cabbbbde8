use Rattle.std.proofs.Common.{map}
use Rattle.taos_lanes.specs.Joining.{IsEmptied}
use Rattle.taos_lanes.proofs.Rows.{Upto}
use Rattle.taos_lanes.proofs.serving.empty.Given as goal

abbrev pub invariant-loop-lane : goal.invariant-loop-lane
invariant-loop-lane g l = record {
  upto : Upto IsEmptied l.lane-index
      (map g.L.Worker.shown l.initial.lanes)
      (map g.L.Worker.shown l.lanes);
}
