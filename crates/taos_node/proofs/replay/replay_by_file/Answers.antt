-- what the file opens, and what the bytes of the input come to beside it
use Rattle.std.proofs.Common.{refl}
use Rattle.taos_node.specs.Calls.{touched}
use Rattle.taos_node.specs.Command.{UsesNoLane}
use Rattle.node_commands.specs.Words.{Replay}
use Rattle.taos_node.proofs.Replayed.{replayed}
use Rattle.taos_node.proofs.Statuses.{refuses}
use Rattle.taos_node.proofs.replay.replay_by_file.Goals as goal

pub returns-in-Ok : goal.returns-in-Ok
returns-in-Ok g c = record {
  replays = λ used words is.
      let before = touched (g.F.Source.shown c.args.file.now) (g.I.Source.shown c.args.input.now)
      (g.O.Sink.shown c.args.output.now) used in
      let after = touched (g.F.Source.shown c.file_opening.new.file) (g.I.Source.shown c.replay_input.new.input)
      (g.O.Sink.shown c.replay_input.new.output) used in
      let gives = c.in-Ok.ensures.gives in
      let lane : UsesNoLane before after = record { clock = refl; link = refl; fetch = refl } in (
        (is, record { node = gives.0; opens = gives.1; replays = c.replay_input.ensures.replays gives.0 gives.2; lane = lane }),
        replayed words before after gives.0 c.replay_input.result is gives.1 c.in-Ok.ensures.cause refl c.replay_input.ensures.causes,
      );
}

pub returns-in-Err : goal.returns-in-Err
returns-in-Err g c = record {
  replays = refuses Replay (g.F.Source.shown c.args.file.now) (g.F.Source.shown c.file_opening.new.file) (g.I.Source.shown c.args.input.now) (g.O.Sink.shown c.args.output.now) c.in-Err.fault c.in-Err.ensures.gives c.in-Err.ensures.cause;
}
