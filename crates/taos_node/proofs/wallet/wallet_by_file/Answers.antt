use Rattle.std.proofs.Common.{List, refl, subst}
use Rattle.frame_link.specs.Served.{IsServed, line}
use Rattle.cred_pull.specs.WalletFile.{WalletRow}
use Rattle.cred_pull.specs.WalletServing.{Answers, GivesUp}
use Rattle.taos_node.specs.Calls.{touched}
use Rattle.taos_node.specs.Command.{UsesNoLane}
use Rattle.node_commands.specs.Words.{Wallet}
use Rattle.taos_node.proofs.Statuses.{refuses, walleted}
use Rattle.taos_node.proofs.wallet.wallet_by_file.Goals as goal

pub returns-in-Ok : goal.returns-in-Ok
returns-in-Ok g c = record {
  gives = λ used words is.
      let before = touched (g.F.Source.shown c.args.file.now) (g.I.Source.shown c.args.input.now)
      (g.O.Sink.shown c.args.output.now) used in
      let after = touched (g.F.Source.shown c.file_wallet.new.file) (g.I.Source.shown c.serve_wallet.new.input)
      (g.O.Sink.shown c.serve_wallet.new.output) used in
      let gives = c.in-Ok.ensures.gives in
      let lane : UsesNoLane before after = record { clock = refl; link = refl; fetch = refl } in
      let outcome = c.serve_wallet.result in
      let served = subst (λ (rows : List WalletRow). IsServed Answers GivesUp c.args.frames (line before.input before.output rows) (line after.input after.output rows) outcome) gives.2 c.serve_wallet.ensures.served in (
        (c.args.frames, is, (gives.0, gives.1, record { served = served; lane = lane })),
        walleted words c.args.frames before after outcome c.in-Ok.ensures.cause gives.0 is gives.1 c.serve_wallet.ensures.complete c.serve_wallet.ensures.causes c.serve_wallet.ensures.clock refl,
      );
}

pub returns-in-Err : goal.returns-in-Err
returns-in-Err g c = record {
  gives = refuses (Wallet c.args.frames) (g.F.Source.shown c.args.file.now) (g.F.Source.shown c.file_wallet.new.file) (g.I.Source.shown c.args.input.now) (g.O.Sink.shown c.args.output.now) c.in-Err.fault c.in-Err.ensures.gives c.in-Err.ensures.cause;
}
