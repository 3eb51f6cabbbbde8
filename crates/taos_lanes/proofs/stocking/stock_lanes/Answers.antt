use Rattle.std.proofs.Common.{map, refl, sym, ap, subst, arith, ◌<◌, ◌+◌, length}
use Rattle.std.specs.List.{AllZip}
use Rattle.std.proofs.Math.Seq.{map-set_same}
use Rattle.taos_lanes.specs.Joining.{IsGivenStock}
use Rattle.taos_lanes.specs.Workers.{HasOtherWork}
use Rattle.taos_lanes.specs.Stocked.{cells_of}
use Rattle.taos_lanes.proofs.Rows.{at_error, upto_all, upto_done, upto_set}
use Rattle.taos_lanes.proofs.stocking.stock_lanes.Goals as goal

pub returns-in_err-stock_of-clause-same : goal.returns-in_err-stock_of-clause-same
returns-in_err-stock_of-clause-same g c =
    at_error c.from_residual.result
    (subst (AllZip HasOtherWork (map g.L.Worker.shown c.args.lanes.now)) (sym (map-set_same g.L.Worker.shown c.loop-lane.lanes c.loop-lane.lane-index _ c.lane-item.result refl))
    (upto_all (IsGivenStock (cells_of c.args.agent.now c.args.rack.now)) HasOtherWork (λ x y s. s.same) (λ x. record { outside = refl; door = refl; fetch = refl; tally = refl }) _ _ _ c.loop-lane.invariant.upto))

pub loop-lane-preserved : goal.loop-lane-preserved
loop-lane-preserved g c =
    let within : c.loop-lane.lane-index < length c.loop-lane.lanes = omega (arith, c.loop-lane-test.true, c.loop-lane.auto.lanes) in
    record {
      upto = upto_set (IsGivenStock (cells_of c.args.agent.now c.args.rack.now)) g.L.Worker.shown _ _ c.loop-lane.lanes _ c.lane-item.result c.loop-lane.invariant.upto within
          (record { same = c.exchange.ensures.rest; work = (c.in_ok-stock_of.field-0, c.exchange.ensures.has, c.in_ok-stock_of.ensures.stock) });
      kept = c.in_ok-stock_of.ensures.kept;
      given = ap (λ n. n + 1) c.loop-lane.invariant.given;
    }

pub returns-clause-stocked : goal.returns-clause-stocked
returns-clause-stocked g c = upto_done (IsGivenStock (cells_of c.args.agent.now c.args.rack.now)) _ _ _ _ c.loop-lane.invariant.upto c.loop-lane-test.false
