-- What is asked for is given, and nothing where nothing is.
use Rattle.std.proofs.Common.{◌≤◌, All, List, ℕ, length, map, arith, ap, sym, subst, ◌∙◌}
use Rattle.byte_fields.proofs.FieldLaws.{IsBytes}
use Rattle.cred_pull.specs.declared.wallet.WalletLine.{WalletLine}
use Rattle.cred_pull.specs.FetchMessages.{giving}
use Rattle.cred_pull.specs.WalletServing.{given_for, is_fetching, is_no_fetching}
use Rattle.cred_pull.specs.WalletView.{row_of, rows_of}
use Rattle.cred_pull.proofs.Rows.{given_short}
use Rattle.cred_pull.proofs.Asked.{asked_takes, asked_none}
use Rattle.cred_pull.proofs.wallet_answer.reply_to.Goals as goal

pub lay_answer-requires : goal.lay_answer-requires
lay_answer-requires c = record {
  few = c.as_slice.ensures.fits;
  short = subst (All (λ (t : List ℕ). length t ≤ 1024)) (sym (ap (map (λ t. t.now)) c.as_slice.ensures.value ∙ c.given_for.ensures ∙ ap (λ (l : List WalletLine). given_for (map row_of l) c.in-Ok.channel) c.deref.ensures.value)) (given_short c.in-Ok.channel (rows_of c.args.wallet.now) c.requires);
}

pub returns-in-Ok-clause-reply : goal.returns-in-Ok-clause-reply
returns-in-Ok-clause-reply c =
    let fits : IsBytes c.args.payload.now = λ i. omega (arith, c.type_inv.payload i) in
    let a = asked_takes c.args.payload.now _ fits (sym c.asked.ensures ∙ c.in-Ok.is) in
    is_fetching _ _ a.channel a.seq a.text
    (c.lay_answer.ensures.reply ∙ ap giving (ap (map (λ t. t.now)) c.as_slice.ensures.value ∙ c.given_for.ensures ∙ ap (λ (l : List WalletLine). given_for (map row_of l) c.in-Ok.channel) c.deref.ensures.value))

pub returns-in-Err-clause-reply : goal.returns-in-Err-clause-reply
returns-in-Err-clause-reply c =
    is_no_fetching (asked_none c.args.payload.now c.in-Err.field-0 (sym c.in-Err.ensures)) c.lay_answer-in-Err.ensures.reply
