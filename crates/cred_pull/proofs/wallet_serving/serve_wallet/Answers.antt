use Rattle.std.proofs.Common.{refl}
use Rattle.frame_link.specs.Served.{line}
use Rattle.frame_link.proofs.Ends.{unserved}
use Rattle.cred_pull.specs.declared.wallet_serving.Giving.{Giving}
use Rattle.cred_pull.specs.WalletServing.{Answers, GivesUp}
use Rattle.cred_pull.specs.WalletView.{rows_of}
use Rattle.cred_pull.proofs.ByRows.{by_rows}
use Rattle.cred_pull.proofs.wallet_serving.serve_wallet.Goals as goal

pub returns-in_default-clause-served : goal.returns-in_default-clause-served
returns-in_default-clause-served g c =
    unserved Answers GivesUp c.args.frames (line (g.I.Source.shown c.args.input.now) (g.O.Sink.shown c.args.output.now) (rows_of c.args.wallet.now))

pub returns-clause-served : goal.returns-clause-served
returns-clause-served g c =
    by_rows (λ (s : Giving). rows_of s.wallet.now) (rows_of c.args.wallet.now) c.args.frames _ _ c.serve_frames.result refl c.serve_frames.ensures.served
