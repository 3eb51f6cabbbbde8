use Rattle.std.proofs.Common.{map, take}
use Rattle.taos_lanes.specs.Joining.{ArePassesOf, IsEmptied, IsTotalOf, JoinsAll, passes_of, stocks_in}
use Rattle.taos_lanes.specs.Stocked.{cells_of}
use Rattle.taos_lanes.proofs.Rows.{Upto}
use Rattle.taos_lanes.proofs.Totals.{IsSmall}
use Rattle.taos_lanes.proofs.joining.join_lanes.Given as goal

abbrev pub invariant-loop-lane : goal.invariant-loop-lane
invariant-loop-lane g l = record {
  upto : Upto IsEmptied l.lane-index
      (map g.L.Worker.shown l.initial.lanes)
      (map g.L.Worker.shown l.lanes);
  joined : JoinsAll (cells_of l.agent l.rack) (passes_of l.initial.passes l.initial.racked)
      (stocks_in (take l.lane-index (map g.L.Worker.shown l.initial.lanes)))
      (passes_of l.passes l.racked);
  passes : ArePassesOf (cells_of l.agent l.rack) (passes_of l.passes l.racked);
  total : IsTotalOf
      (stocks_in (take l.lane-index (map g.L.Worker.shown l.initial.lanes)))
      l.total;
  small : IsSmall l.lane-index l.total;
}
