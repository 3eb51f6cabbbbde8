-- The first lane's clock and link are those that the connection used.
use Rattle.std.proofs.Common.{slice_index_or, ap, map, refl, sym, arith}
use Rattle.std.proofs.lemmas.List.{drop-set-lt}
use Rattle.std.proofs.Math.Seq.{map-set_same}
use Rattle.shard_core.specs.Alone.{seen_in, own_in}
use Rattle.request_course.specs.Cells.{viewed, seen_of}
use Rattle.request_course.specs.World.{Setting}
use Rattle.object_core.specs.OneOwner.{seen_on, own_on}
use Rattle.taos_node.specs.Calls.{first_of, used_of}
use Rattle.taos_lanes.specs.Opened.{node_by, nothing_seen, seen_by}
use Rattle.taos_node.proofs.Commands.{touches, first_is, first_after, causes_by, complete_by, leaves_doors}
use Rattle.taos_node.proofs.command.serve_first.Goals as goal

pub returns-clause-connection : goal.returns-clause-connection
returns-clause-connection g c = λ file0 file1 o opened.
    let node = c.args.node.now in
    let lanes = c.args.lanes.now in
    let other = c.index-lanes-0.result in
    let lane = slice_index_or lanes 0 other in
    let n = node_by node in
    let left = c.serve.new.desk in
    let last = seen_of (viewed (λ s. seen_in left.shards.now.shards s) (λ s. own_in left.shards.now s)) (viewed (λ o. seen_on left.shelf.now o) (λ o. own_on left.shelf.now o)) in
    let some = c.requires.some in
    let shown = g.L.Worker.shown in (
      record {
        node = n;
        is_node = opened.is_node;
        seen = last;
        connection =
            touches n c.args.asked.pulls left.pulls c.args.asked.frames file0 file1
            (g.I.Source.shown c.args.input.now) (g.I.Source.shown c.serve.new.input)
            (g.O.Sink.shown c.args.output.now) (g.O.Sink.shown c.serve.new.output)
            (used_of (shown lane)) (first_of (map shown lanes)) (used_of (shown c.serve.new.self)) _
            (seen_by node) nothing_seen last c.serve.result c.serve.ensures.connection.1.connection.fetched.0
            (first_is shown lanes other some) (first_after shown lanes _ some) (sym opened.unseen)
            c.serve.ensures.connection.1;
      },
      refl,
      refl,
    )

pub returns-clause-causes : goal.returns-clause-causes
returns-clause-causes g c =
    causes_by g.L.Worker.shown c.args.lanes.now c.index-lanes-0.result _ c.requires.some (g.I.Source.shown c.args.input.now) (g.I.Source.shown c.serve.new.input) (g.O.Sink.shown c.args.output.now)
    (g.O.Sink.shown c.serve.new.output) c.serve.result c.serve.ensures.connection.1.causes

pub returns-clause-complete : goal.returns-clause-complete
returns-clause-complete g c =
    complete_by g.L.Worker.shown c.args.lanes.now c.index-lanes-0.result _ c.requires.some (g.I.Source.shown c.args.input.now) (g.I.Source.shown c.serve.new.input) (g.O.Sink.shown c.args.output.now)
    (g.O.Sink.shown c.serve.new.output) c.serve.result c.args.asked.frames c.serve.ensures.connection.1.complete

pub returns-clause-same : goal.returns-clause-same
returns-clause-same g c =
    let stays = c.serve.ensures.connection.0.setting in
    record {
      plans = ap (λ (x : Setting). x.node.plans) stays;
      objects = ap (λ (x : Setting). x.node.objects) stays;
      none_taken = c.serve.ensures.free.none_taken;
    }

pub returns-clause-left : goal.returns-clause-left
returns-clause-left g c =
    let rest = c.serve.ensures.rest in
    leaves_doors g.L.Worker.shown c.args.lanes.now c.index-lanes-0.result _ c.requires.some (record { door = rest.door; work = rest.work; tally = rest.tally })

pub returns-clause-untouched : goal.returns-clause-untouched
returns-clause-untouched g c = record {
  others = drop-set-lt 1 c.args.lanes.now 0 _ (omega arith);
  doors = map-set_same g.L.Worker.door c.args.lanes.now 0 _ c.index-lanes-0.result c.serve.ensures.rest.same_door;
}
