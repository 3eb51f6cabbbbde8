use Rattle.std.proofs.Common.{refl}
use Rattle.taos_node.specs.Calls.{touched}
use Rattle.taos_node.specs.Command.{UsesNoLane}
use Rattle.taos_node.proofs.CheckCommands.{looked_over}
use Rattle.node_commands.specs.Words.{Check}
use Rattle.taos_node.proofs.Statuses.{checked, refuses}
use Rattle.taos_node.proofs.command.check_file.Goals as goal

pub returns-in-Ok : goal.returns-in-Ok
returns-in-Ok g c = record {
  checks = λ used words check.
      let before = touched (g.F.Source.shown c.args.file.now) (g.I.Source.shown c.args.input.now)
      (g.O.Sink.shown c.args.output.now) used in
      let after = touched (g.F.Source.shown c.file_opening.new.file) (g.I.Source.shown c.check_connection.new.input)
      (g.O.Sink.shown c.check_connection.new.output) used in
      let gives = c.in-Ok.ensures.gives in
      let lane : UsesNoLane before after = record { clock = refl; link = refl; fetch = refl } in (
        (check, looked_over before after c.in-Ok.node gives.0 c.check_connection.result gives.1 gives.2 c.check_connection.ensures.checks lane),
        checked words before after gives.0 c.check_connection.result check gives.1 c.in-Ok.ensures.cause refl c.check_connection.ensures.causes,
      );
}

pub returns-in-Err : goal.returns-in-Err
returns-in-Err g c = record {
  checks = refuses Check (g.F.Source.shown c.args.file.now) (g.F.Source.shown c.file_opening.new.file) (g.I.Source.shown c.args.input.now) (g.O.Sink.shown c.args.output.now) c.in-Err.fault c.in-Err.ensures.gives c.in-Err.ensures.cause;
}
