-- what the file opens, and what its lanes did
use Rattle.std.proofs.Common.{◌≡◌, None, inl, map, refl}
use Rattle.std.proofs.lemmas.List.Elements.{All-map}
use Rattle.std.proofs.KnownBytes.{Keeps-refl}
use Rattle.taos_lanes.specs.Telling.{told_by}
use Rattle.taos_lanes.specs.Workers.{LaneShown}
use Rattle.taos_node.specs.Calls.{touched, first_of}
use Rattle.node_commands.specs.Words.{Serve, serve_words}
use Rattle.taos_node.proofs.LaneStatuses.{doors_tell, file_does, lanes_tell}
use Rattle.taos_node.proofs.Commands.{decided_opened}
use Rattle.node_commands.proofs.Meant.{node_files}
use Rattle.node_commands.specs.Files.{IsNodeFile, node_means}
use Rattle.taos_node.proofs.Statuses.{refuses}
use Rattle.taos_node.proofs.lanes.serve_by_file.Goals as goal
use Rattle.taos_node.proofs.Stopped.{lanes_status}

pub returns-in-Ok : goal.returns-in-Ok
returns-in-Ok g c = record {
  serves = λ input words is.
      let f = g.L.Worker.shown in
      let asked = serve_words c.args.asked.limits c.args.asked.lemmas c.args.asked.pulls in
      let before = touched (g.F.Source.shown c.args.file.now) input (g.O.Sink.shown c.args.output.now)
      (first_of (map g.L.Worker.shown c.args.lanes.now)) in
      let after = touched (g.F.Source.shown c.node_parts_of.new.file) input (g.O.Sink.shown c.serve_parts.new.output)
      (first_of (map g.L.Worker.shown c.serve_parts.new.lanes)) in
      let gives = c.in-Ok.ensures.gives in
      let did = c.serve_parts.ensures.serves gives.0 gives.2 in
      record {
        runs = (Keeps-refl input.told, All-map (λ (lane : LaneShown _). lane.work ≡ None) f c.serve_parts.new.lanes c.serve_parts.ensures.idle, (asked, is, (gives.0, gives.1, did)));
        status = lanes_tell before after words (Serve asked) c.serve_parts.result is tt (decided_opened IsNodeFile node_means node_files before.file after.file gives.0 (lanes_status c.serve_parts.result) gives.1)
            (inl (asked, is)) c.in-Ok.ensures.cause refl c.serve_parts.ensures.cause;
        tells = doors_tell (told_by g.L.In.Source.shown g.L.Out.Sink.shown) asked (map f c.args.lanes.now) (map f c.serve_parts.new.lanes) gives.0 words before after c.serve_parts.result is did c.serve_parts.ensures.cause;
      };
}

pub returns-in-Err : goal.returns-in-Err
returns-in-Err g c = record {
  serves = λ input words is.
      let output = g.O.Sink.shown c.args.output.now in
      let l = map g.L.Worker.shown c.args.lanes.now in
      let file0 = g.F.Source.shown c.args.file.now in
      let file1 = g.F.Source.shown c.node_parts_of.new.file in
      let asked = serve_words c.args.asked.limits c.args.asked.lemmas c.args.asked.pulls in
      let gives = c.in-Err.ensures.gives in
      let done = refuses (Serve asked) file0 file1 input output c.in-Err.fault gives c.in-Err.ensures.cause (first_of l) words is in
      file_does (told_by g.L.In.Source.shown g.L.Out.Sink.shown) words (touched file0 input output (first_of l)) (touched file1 input output (first_of l)) l asked c.in-Err.fault is done.0 done.1 gives c.in-Err.ensures.cause;
}
