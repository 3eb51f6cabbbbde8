use Rattle.std.proofs.Common.{refl}
use Rattle.std.proofs.KnownBytes.{Keeps-refl}
use Rattle.taos_node.specs.Calls.{touched}
use Rattle.taos_node.specs.Command.{UsesNoLane, labels_of}
use Rattle.node_commands.specs.Words.{Mint, mint_words}
use Rattle.node_commands.proofs.Minted.{same_mints}
use Rattle.taos_node.proofs.Statuses.{minted, refuses}
use Rattle.taos_node.proofs.relay.mint_by_file.Goals as goal

pub returns-in-Ok : goal.returns-in-Ok
returns-in-Ok g c = record {
  mints = λ input used words is.
      let before = touched (g.F.Source.shown c.args.file.now) input (g.O.Sink.shown c.args.output.now) used in
      let after = touched (g.F.Source.shown c.file_relay.new.file) input (g.O.Sink.shown c.mint.new.output) used in
      let gives = c.in-Ok.ensures.gives in
      let lane : UsesNoLane before after = record { clock = refl; link = refl; fetch = refl } in
      let m = mint_words c.args.asked.now in
      let stands = gives.2 in
      let made = same_mints c.in-Ok.relay.table.issuers.entries gives.0.issuers c.in-Ok.relay.names (labels_of gives.0) stands.issuers.each stands.names stands.roles m before.output.told after.output.told c.mint.result c.mint.ensures.mints in (
        (m, is, (gives.0, gives.1, record { mints = made; input = Keeps-refl input.told; lane = lane })),
        minted words m before after gives.0 c.mint.result is gives.1 c.in-Ok.ensures.cause refl refl c.mint.ensures.causes,
      );
}

pub returns-in-Err : goal.returns-in-Err
returns-in-Err g c = record {
  mints = λ input. refuses (Mint (mint_words c.args.asked.now)) (g.F.Source.shown c.args.file.now) (g.F.Source.shown c.file_relay.new.file) input (g.O.Sink.shown c.args.output.now) c.in-Err.fault c.in-Err.ensures.gives c.in-Err.ensures.cause;
}
