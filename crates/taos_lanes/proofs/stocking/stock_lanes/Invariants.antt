use Rattle.std.proofs.Common.{◌≡◌, map}
use Rattle.taos_lanes.specs.Joining.{AreKept, IsGivenStock, passes_of}
use Rattle.taos_lanes.specs.Stocked.{cells_of}
use Rattle.taos_lanes.proofs.Rows.{Upto}
use Rattle.taos_lanes.proofs.stocking.stock_lanes.Given as goal

abbrev pub invariant-loop-lane : goal.invariant-loop-lane
invariant-loop-lane g l = record {
  upto : Upto (IsGivenStock (cells_of l.agent l.rack)) l.lane-index
      (map g.L.Worker.shown l.initial.lanes)
      (map g.L.Worker.shown l.lanes);
  kept : AreKept (cells_of l.agent l.rack) l.given (passes_of l.passes l.racked);
  given : l.given ≡ l.lane-index;
}
