use Rattle.std.proofs.Common.{[], ◌∷◌, ◌++◌, take, ap, arith, subst, sym, cond, ◌+◌, ◌∙◌}
use Rattle.std.specs.Prelude.{◌==◌}
use Rattle.std.proofs.lemmas.List.{take_all, take_more}
use Rattle.taos_lanes.specs.declared.tally.Tally.{Tally}
use Rattle.taos_lanes.specs.Totals.{IsSumOf}
use Rattle.taos_lanes.proofs.Totals.{small_more, sum_more}
use Rattle.taos_lanes.proofs.relaying.total_of.Goals as goal

pub loop-lane-preserved : goal.loop-lane-preserved
loop-lane-preserved g c =
    let was = c.loop-lane.invariant in
    let t = c.tally.ensures in
    let total = c.loop-lane.total in
    record {
      sum = subst (λ l. IsSumOf (λ lane. (g.L.Worker.shown lane).tally) l c.add.new.self)
          (sym (take_more c.args.lanes.now c.loop-lane.lane-index c.lane-item.result c.loop-lane-test.true ∙ ap (λ lane. take c.loop-lane.lane-index c.args.lanes.now ++ lane ∷ []) (sym c.lane-item.is)))
          (sum_more (λ lane. (g.L.Worker.shown lane).tally) (take c.loop-lane.lane-index c.args.lanes.now) c.lane-item.result total c.add.new.self was.sum c.add.ensures.lanes
          (c.add.ensures.served ∙ ap (λ (x : Tally). total.served + x.served) t)
          (c.add.ensures.broken ∙ ap (λ (x : Tally). total.broken + x.broken) t)
          (c.add.ensures.lacked ∙ ap (λ (x : Tally). total.lacked + x.lacked) t)
          (c.add.ensures.doors ∙ ap (λ (x : Tally). total.doors_failed + cond x.door_failed 1 0) t)
          (c.add.ensures.first ∙ ap (λ (x : Tally). cond (total.first_failed == total.lanes) (total.lanes + cond x.door_failed 0 1) total.first_failed) t));
      small = small_more _ _ _ _ _ _ _ was.small c.add.ensures.lanes c.add.ensures.served c.add.ensures.broken c.add.ensures.lacked c.add.ensures.doors c.add.ensures.few;
    }

pub returns : goal.returns
returns g c = subst (λ l. IsSumOf (λ lane. (g.L.Worker.shown lane).tally) l c.loop-lane.total) (take_all c.loop-lane.lane-index c.args.lanes.now (omega (arith, c.loop-lane-test.false))) c.loop-lane.invariant.sum
