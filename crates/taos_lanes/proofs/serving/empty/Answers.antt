use Rattle.std.proofs.Common.{arith, ◌<◌, length}
use Rattle.taos_lanes.specs.Joining.{IsEmptied}
use Rattle.taos_lanes.proofs.Rows.{upto_done, upto_set}
use Rattle.taos_lanes.proofs.serving.empty.Goals as goal

pub loop-lane-preserved : goal.loop-lane-preserved
loop-lane-preserved g c =
    let within : c.loop-lane.lane-index < length c.loop-lane.lanes = omega (arith, c.loop-lane-test.true, c.loop-lane.auto.lanes) in
    record {
      upto = upto_set IsEmptied g.L.Worker.shown _ _ c.loop-lane.lanes _ c.lane-item.result c.loop-lane.invariant.upto within
          (record { same = c.exchange.ensures.rest; work = c.exchange.ensures.has });
    }

pub returns : goal.returns
returns g c = upto_done IsEmptied _ _ _ _ c.loop-lane.invariant.upto c.loop-lane-test.false
