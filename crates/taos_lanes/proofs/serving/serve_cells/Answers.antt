use Rattle.std.proofs.Common.{sym, subst, ℕ}
use Rattle.std.proofs.lemmas.List.{length-map}
use Rattle.taos_lanes.specs.declared.lane.Stock.{Stock}
use Rattle.taos_lanes.specs.Lanes.{LaneRun}
use Rattle.taos_lanes.specs.Joining.{HaveAllBut, cells_by, node_by}
use Rattle.taos_lanes.specs.Telling.{told_by}
use Rattle.taos_lanes.specs.Working.{tally_of}
use Rattle.taos_lanes.proofs.Ends.{all_back, idle_after, lanes_stocked, same_ends, works}
use Rattle.taos_lanes.proofs.Runs.{all_ran, all_serve, closed_fixed, closed_plans}
use Rattle.taos_lanes.proofs.Totals.{sum_same}
use Rattle.taos_lanes.proofs.serving.serve_cells.Goals as goal

pub returns-in_default-clause-idle : goal.returns-in_default-clause-idle
returns-in_default-clause-idle g c =
    idle_after g.L.Worker.shown _ _ c.empty.ensures

pub returns-in_default-clause-unserved : goal.returns-in_default-clause-unserved
returns-in_default-clause-unserved g c = same_ends _ _ _ c.in_default.ensures.same c.empty.ensures

pub serve_lanes-requires-clause-stocked : goal.serve_lanes-requires-clause-stocked
serve_lanes-requires-clause-stocked g c κs within =
    lanes_stocked g.L.Worker.shown (cells_by c.args.node) _ _ c.in-Ok.ensures.stocked

pub join_lanes-total-requires-clause-stocked : goal.join_lanes-total-requires-clause-stocked
join_lanes-total-requires-clause-stocked g c κs within =
    works (told_by g.L.In.Source.shown g.L.Out.Sink.shown) c.args.node.keys (cells_by c.args.node) c.args.pulls c.args.limits _ _ c.serve_lanes.ensures

pub close-requires-clause-shares : goal.close-requires-clause-shares
close-requires-clause-shares g c =
    (all_back (told_by g.L.In.Source.shown g.L.Out.Sink.shown) c.args.node.keys (cells_by c.args.node) c.args.pulls c.args.limits _ _ _ _ _
    (all_ran (told_by g.L.In.Source.shown g.L.Out.Sink.shown) c.args.node.keys (cells_by c.args.node) c.args.pulls c.args.limits _ _ _ _ c.in-Ok.ensures.stocked c.serve_lanes.ensures c.join_lanes-total.ensures.emptied) c.join_lanes-total.ensures.joined
    (subst (λ (n : ℕ). HaveAllBut n c.stock_lanes.new.passes) (sym (length-map c.args.lanes.now g.L.Worker.shown)) c.in-Ok.ensures.kept.shards_left)
    (subst (λ (n : ℕ). HaveAllBut n c.stock_lanes.new.racked) (sym (length-map c.args.lanes.now g.L.Worker.shown)) c.in-Ok.ensures.kept.objects_left)).0

pub close-requires-2-clause-shares : goal.close-requires-2-clause-shares
close-requires-2-clause-shares g c =
    (all_back (told_by g.L.In.Source.shown g.L.Out.Sink.shown) c.args.node.keys (cells_by c.args.node) c.args.pulls c.args.limits _ _ _ _ _
    (all_ran (told_by g.L.In.Source.shown g.L.Out.Sink.shown) c.args.node.keys (cells_by c.args.node) c.args.pulls c.args.limits _ _ _ _ c.in-Ok.ensures.stocked c.serve_lanes.ensures c.join_lanes-total.ensures.emptied) c.join_lanes-total.ensures.joined
    (subst (λ (n : ℕ). HaveAllBut n c.stock_lanes.new.passes) (sym (length-map c.args.lanes.now g.L.Worker.shown)) c.in-Ok.ensures.kept.shards_left)
    (subst (λ (n : ℕ). HaveAllBut n c.stock_lanes.new.racked) (sym (length-map c.args.lanes.now g.L.Worker.shown)) c.in-Ok.ensures.kept.objects_left)).1

pub returns-clause-served : goal.returns-clause-served
returns-clause-served g c =
    let cells = cells_by c.args.node in
    let ran = all_ran (told_by g.L.In.Source.shown g.L.Out.Sink.shown) c.args.node.keys (cells_by c.args.node) c.args.pulls c.args.limits _ _ _ _ c.in-Ok.ensures.stocked c.serve_lanes.ensures c.join_lanes-total.ensures.emptied in
    let kept = c.in-Ok.ensures.kept in
    record {
      runs = ran.runs;
      each = ran.each;
      serves = all_serve (told_by g.L.In.Source.shown g.L.Out.Sink.shown) c.args.node.keys cells c.args.limits c.requires.new.shards c.requires.new.objects _ _ kept.shards_fresh kept.objects_fresh
          c.join_lanes-total.ensures.passes _ _ c.close.ensures c.close-2.ensures (c.closed_lanes_serve_all.ensures _ _) _ _ ran.fresh ran.seen c.join_lanes-total.ensures.joined;
      plans = closed_plans _ _ _ c.close.ensures;
      fixed = closed_fixed _ _ _ c.close-2.ensures;
      counted = sum_same (λ (run : LaneRun (node_by c.args.node) c.args.limits.frames). tally_of run.visits run.door_failed) (λ (stock : Stock). stock.tally) ran.runs _ _ ran.counted c.join_lanes-total.ensures.total;
    }

pub returns-clause-idle : goal.returns-clause-idle
returns-clause-idle g c =
    idle_after g.L.Worker.shown _ _ c.join_lanes-total.ensures.emptied
