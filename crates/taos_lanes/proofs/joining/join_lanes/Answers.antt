use Rattle.std.proofs.Common.{◌≡◌, [], ◌∷◌, ◌++◌, cond, List, map, take, refl, sym, ap, subst, arith, ◌∙◌, ◌<◌, ◌+◌, length}
use Rattle.std.specs.Prelude.{IsSome, ◌==◌}
use Rattle.std.proofs.lemmas.Option.{same_Some}
use Rattle.taos_lanes.specs.declared.lane.Stock.{Stock}
use Rattle.taos_lanes.specs.declared.tally.Tally.{Tally}
use Rattle.taos_lanes.specs.Joining.{IsEmptied, IsTotalOf, JoinsAll, passes_of, stocks_in}
use Rattle.taos_lanes.specs.Stocked.{IsStockOf, cells_of}
use Rattle.taos_lanes.proofs.Joined.{joins_push}
use Rattle.taos_lanes.proofs.Rows.{upto_done, upto_set}
use Rattle.taos_lanes.proofs.Totals.{has_work, small_more, stocks_gone, total_more}
use Rattle.taos_lanes.proofs.joining.join_lanes.Goals as goal

pub unwrap-stock-requires : goal.unwrap-stock-requires
unwrap-stock-requires g c =
    let within : c.loop-lane.lane-index < length c.loop-lane.lanes = omega (arith, c.loop-lane-test.true, c.loop-lane.auto.lanes) in
    let work = has_work (IsStockOf (cells_of c.args.agent.now c.args.rack.now)) g.L.Worker.shown c.loop-lane.lane-index c.args.lanes.now c.loop-lane.lanes c.lane-item.result c.loop-lane.invariant.upto within c.requires.stocked in
    subst IsSome (sym (c.exchange.ensures.gives ∙ work.1)) refl

pub join_stock-requires-clause-stock : goal.join_stock-requires-clause-stock
join_stock-requires-clause-stock g c =
    let within : c.loop-lane.lane-index < length c.loop-lane.lanes = omega (arith, c.loop-lane-test.true, c.loop-lane.auto.lanes) in
    let work = has_work (IsStockOf (cells_of c.args.agent.now c.args.rack.now)) g.L.Worker.shown c.loop-lane.lane-index c.args.lanes.now c.loop-lane.lanes c.lane-item.result c.loop-lane.invariant.upto within c.requires.stocked in
    subst (IsStockOf (cells_of c.args.agent.now c.args.rack.now)) (same_Some _ _ (sym work.1 ∙ (sym c.exchange.ensures.gives ∙ c.unwrap-stock.ensures))) work.2

pub loop-lane-preserved : goal.loop-lane-preserved
loop-lane-preserved g c =
    let within : c.loop-lane.lane-index < length c.loop-lane.lanes = omega (arith, c.loop-lane-test.true, c.loop-lane.auto.lanes) in
    let was = c.loop-lane.invariant in
    let tally = c.join_stock.ensures.tally in
    let more : stocks_in (take (c.loop-lane.lane-index + 1) (map g.L.Worker.shown c.args.lanes.now)) ≡ stocks_in (take c.loop-lane.lane-index (map g.L.Worker.shown c.args.lanes.now)) ++ c.unwrap-stock.result ∷ [] =
    stocks_gone g.L.Worker.shown c.loop-lane.lane-index c.args.lanes.now c.loop-lane.lanes c.lane-item.result c.unwrap-stock.result was.upto within (sym c.exchange.ensures.gives ∙ c.unwrap-stock.ensures) in
    record {
      upto = upto_set IsEmptied g.L.Worker.shown _ _ c.loop-lane.lanes _ c.lane-item.result was.upto within
          (record { same = c.exchange.ensures.rest; work = c.exchange.ensures.has });
      joined = subst (λ (l : List Stock). JoinsAll (cells_of c.args.agent.now c.args.rack.now) (passes_of c.args.passes.now c.args.racked.now) l (passes_of c.join_stock.new.passes c.join_stock.new.racked)) (sym more)
          (joins_push _ _ _ _ _ _ was.joined c.join_stock.ensures.joined);
      passes = c.join_stock.ensures.passes;
      total = subst (λ (l : List Stock). IsTotalOf l c.add.new.self) (sym more)
          (total_more _ c.unwrap-stock.result _ _ was.total c.add.ensures.lanes
          (c.add.ensures.served ∙ ap (λ (x : Tally). c.loop-lane.total.served + x.served) tally)
          (c.add.ensures.broken ∙ ap (λ (x : Tally). c.loop-lane.total.broken + x.broken) tally)
          (c.add.ensures.lacked ∙ ap (λ (x : Tally). c.loop-lane.total.lacked + x.lacked) tally)
          (c.add.ensures.doors ∙ ap (λ (x : Tally). c.loop-lane.total.doors_failed + cond x.door_failed 1 0) tally)
          (c.add.ensures.first ∙ ap (λ (x : Tally). cond (c.loop-lane.total.first_failed == c.loop-lane.total.lanes) (c.loop-lane.total.lanes + cond x.door_failed 0 1) c.loop-lane.total.first_failed) tally));
      small = small_more _ _ _ _ _ _ _ was.small c.add.ensures.lanes c.add.ensures.served c.add.ensures.broken c.add.ensures.lacked c.add.ensures.doors c.add.ensures.few;
    }

pub returns-clause-emptied : goal.returns-clause-emptied
returns-clause-emptied g c = upto_done IsEmptied _ _ _ _ c.loop-lane.invariant.upto c.loop-lane-test.false
