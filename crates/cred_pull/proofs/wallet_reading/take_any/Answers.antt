use Rattle.std.proofs.Common.{[], sym, ◌∙◌}
use Rattle.std.specs.Prelude.{codes}
use Rattle.prin_text.specs.FileLines.{is_first_line}
use Rattle.prin_text.proofs.Begun.{begun_taken, first_taken, no_first}
use Rattle.cred_pull.specs.WalletFile.{wallet_step}
use Rattle.cred_pull.specs.WalletView.{AreRows}
use Rattle.cred_pull.proofs.wallet_reading.take_any.Goals as goal

pub returns-then-begun-clause-takes : goal.returns-then-begun-clause-takes
returns-then-begun-clause-takes c = λ so_far s. begun_taken AreRows [] wallet_step (is_first_line (codes "taos-wallet")) c.args.begun c.args.lines.now.items c.take_line.new.lines.items so_far c.args.line.now s c.take_line.result c.if-begun.true c.take_line.ensures.takes

pub returns-then-is_first_line-clause-takes : goal.returns-then-is_first_line-clause-takes
returns-then-is_first_line-clause-takes c = λ so_far s. first_taken AreRows [] wallet_step (is_first_line (codes "taos-wallet")) c.args.begun c.args.lines.now.items c.args.lines.now.items so_far c.args.line.now s c.if-begun.false (sym c.is_first_line.ensures ∙ c.if-is_first_line.true)

pub returns-clause-takes : goal.returns-clause-takes
returns-clause-takes c = λ so_far s. no_first AreRows [] wallet_step (is_first_line (codes "taos-wallet")) c.args.begun c.args.lines.now.items c.args.lines.now.items so_far c.args.line.now s c.if-begun.false (sym c.is_first_line.ensures ∙ c.if-is_first_line.false)
