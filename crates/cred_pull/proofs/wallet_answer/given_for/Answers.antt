-- A line more.
use Rattle.std.proofs.Common.{◌++◌, ◌∷◌, List, [], map, take, sym, ap, ◌∙◌, arith}
use Rattle.std.proofs.lemmas.List.{map_more, take_all}
use Rattle.cred_pull.specs.declared.wallet.WalletLine.{WalletLine}
use Rattle.cred_pull.specs.WalletFile.{WalletRow}
use Rattle.cred_pull.specs.WalletServing.{given_for}
use Rattle.cred_pull.specs.WalletView.{row_of}
use Rattle.cred_pull.proofs.wallet_answer.given_for.Goals as goal

pub loop-line-preserved : goal.loop-line-preserved
loop-line-preserved c =
    let lines = c.args.lines.now in
    let i = c.loop-line.line-index in
    let item = c.line-item.result in
    let front = map row_of (take i lines) in
    c.give_line.ensures front c.loop-line.invariant
    ∙ ap (λ (l : WalletLine). given_for (front ++ row_of l ∷ []) c.args.channel) c.line-item.is
    ∙ ap (λ (l : List WalletRow). given_for l c.args.channel) (sym (map_more row_of lines i item c.loop-line-test.true))

pub returns : goal.returns
returns c =
    c.loop-line.invariant ∙ ap (λ (l : List WalletLine). given_for (map row_of l) c.args.channel) (take_all c.loop-line.line-index c.args.lines.now (omega (arith, c.loop-line-test.false)))
