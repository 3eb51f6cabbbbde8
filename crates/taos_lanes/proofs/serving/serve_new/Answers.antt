use Rattle.std.proofs.Common.{List, map, sym, subst}
use Rattle.std.specs.Prelude.{IfOk}
use Rattle.agent_core.specs.Journals.{ShardSeen}
use Rattle.agent_core.specs.State.{Plan}
use Rattle.agent_shards.proofs.Seats.{opened_plans}
use Rattle.agent_shards.proofs.Shelves.{opened_fixed}
use Rattle.agent_shards.specs.Shards.{IsShardOpened}
use Rattle.agent_shards.specs.Objects.{IsObjectOpened}
use Rattle.object_core.specs.Objects.{ObjectSeen}
use Rattle.object_core.specs.Shelving.{ObjectFixed, fixed_of}
use Rattle.taos_monitor.specs.Arriving.{node_of}
use Rattle.taos_monitor.specs.Planned.{ArePlanned}
use Rattle.taos_lanes.specs.Serving.{ServesNode, left_by}
use Rattle.taos_monitor.specs.Changing.{change}
use Rattle.taos_lanes.specs.Telling.{told_by}
use Rattle.taos_lanes.proofs.Opening.{opened_new, untouched}
use Rattle.taos_lanes.proofs.Rows.{at_error}
use Rattle.taos_lanes.proofs.serving.serve_new.Goals as goal

pub returns-in_err-try_clone-clause-unserved : goal.returns-in_err-try_clone-clause-unserved
returns-in_err-try_clone-clause-unserved g c = at_error c.from_residual.result (untouched _)

pub returns-in_err-opened-clause-unserved : goal.returns-in_err-opened-clause-unserved
returns-in_err-opened-clause-unserved g c = at_error c.from_residual-in_err-opened.result (untouched _)

pub returns-in_err-racked-clause-unserved : goal.returns-in_err-racked-clause-unserved
returns-in_err-racked-clause-unserved g c = at_error c.from_residual-in_err-racked.result (untouched _)

pub serve_cells-requires-clause-kept : goal.serve_cells-requires-clause-kept
serve_cells-requires-clause-kept g c κs within =
    let shards = opened_new (λ (s : ShardSeen). s.plan) (λ (s : ShardSeen). s.journal) IsShardOpened (λ s x p o. o.opened) _ _ _ c.in_ok-opened.ensures.opened c.requires.new.shards_new in
    let objects = opened_new fixed_of (λ (o : ObjectSeen). o.journal) IsObjectOpened (λ o x p h. h.opened) _ _ _ c.in_ok-racked.ensures.opened c.requires.new.objects_new in
    record {
      of = record { shards = c.in_ok-opened.ensures.passes; objects = c.in_ok-racked.ensures.passes };
      shards_fresh = shards.fresh;
      objects_fresh = objects.fresh;
      shards_left = shards.left;
      objects_left = objects.left;
    }

pub serve_cells-requires-clause-new : goal.serve_cells-requires-clause-new
serve_cells-requires-clause-new g c κs within = record {
  shards = (opened_new (λ (s : ShardSeen). s.plan) (λ (s : ShardSeen). s.journal) IsShardOpened (λ s x p o. o.opened) _ _ _ c.in_ok-opened.ensures.opened c.requires.new.shards_new).new;
  objects = (opened_new fixed_of (λ (o : ObjectSeen). o.journal) IsObjectOpened (λ o x p h. h.opened) _ _ _ c.in_ok-racked.ensures.opened c.requires.new.objects_new).new;
}

pub serve_cells-requires-clause-planned : goal.serve_cells-requires-clause-planned
serve_cells-requires-clause-planned g c κs within =
    subst (λ (l : List Plan). ArePlanned c.args.parts.keys.channels.entries l) (sym (opened_plans _ _ _ c.in_ok-opened.ensures.opened)) c.requires.new.planned

pub returns-clause-served : goal.returns-clause-served
returns-clause-served g c =
    subst (λ (x : List Plan × List ObjectFixed). IfOk c.serve_cells.result (λ r. ServesNode (told_by g.L.In.Source.shown g.L.Out.Sink.shown) (node_of c.args.parts.keys x.0 x.1) c.args.pulls c.args.limits
    (change (map g.L.Worker.shown c.args.lanes.now) (map g.L.Worker.shown c.serve_cells.new.lanes)) (left_by r)))
    (λ i. (opened_plans _ _ _ c.in_ok-opened.ensures.opened i, opened_fixed _ _ _ c.in_ok-racked.ensures.opened i)) c.serve_cells.ensures.served
