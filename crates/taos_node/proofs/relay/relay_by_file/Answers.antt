use Rattle.std.proofs.Common.{refl}
use Rattle.taos_node.specs.Calls.{touched}
use Rattle.taos_node.specs.Command.{UsesNoLane}
use Rattle.node_commands.specs.Words.{Relay}
use Rattle.taos_node.proofs.Statuses.{refuses, relayed}
use Rattle.taos_node.proofs.relay.relay_by_file.Goals as goal

pub returns-in-Ok : goal.returns-in-Ok
returns-in-Ok g c = record {
  relays = λ used words is.
      let before = touched (g.F.Source.shown c.args.file.now) (g.I.Source.shown c.args.input.now)
      (g.O.Sink.shown c.args.output.now) used in
      let after = touched (g.F.Source.shown c.file_relay.new.file) (g.I.Source.shown c.serve_relay.new.input)
      (g.O.Sink.shown c.serve_relay.new.output) used in
      let gives = c.in-Ok.ensures.gives in
      let lane : UsesNoLane before after = record { clock = refl; link = refl; fetch = refl } in
      let outcome = c.serve_relay.result in (
        (c.args.frames, is, (gives.0, gives.1, record { table = c.in-Ok.relay.table; is_relay = record { issuers = gives.2.issuers; nodes = gives.2.nodes }; served = c.serve_relay.ensures.served; lane = lane })),
        relayed words c.args.frames before after outcome c.in-Ok.ensures.cause gives.0 is gives.1 c.serve_relay.ensures.complete c.serve_relay.ensures.causes c.serve_relay.ensures.clock refl,
      );
}

pub returns-in-Err : goal.returns-in-Err
returns-in-Err g c = record {
  relays = refuses (Relay c.args.frames) (g.F.Source.shown c.args.file.now) (g.F.Source.shown c.file_relay.new.file) (g.I.Source.shown c.args.input.now) (g.O.Sink.shown c.args.output.now) c.in-Err.fault c.in-Err.ensures.gives c.in-Err.ensures.cause;
}
