-- What was read is what the payload gives, and nothing was read where it gives none.
use Rattle.std.proofs.Common.{map, arith, ap, sym, subst, ◌∙◌}
use Rattle.byte_fields.proofs.FieldLaws.{IsBytes}
use Rattle.cred_pull.specs.Fetching.{Texts}
use Rattle.cred_pull.specs.FetchMessages.{IsGiving}
use Rattle.cred_pull.proofs.Given.{was_given, was_not_given}
use Rattle.cred_pull.proofs.answer.read_answer.Goals as goal

pub returns-in_default-clause-none : goal.returns-in_default-clause-none
returns-in_default-clause-none c =
    was_not_given (λ t. map (λ s. s.now) t.items) c.args.payload.now c.texts_in.result _ c.texts_in.ensures c.in_default.is

pub returns-in-Ok-copies_of-clause-heard : goal.returns-in-Ok-copies_of-clause-heard
returns-in-Ok-copies_of-clause-heard c =
    let fits : IsBytes c.args.payload.now = λ i. omega (arith, c.type_inv.payload i) in
    let given = was_given (λ t. map (λ s. s.now) t.items) c.args.payload.now c.texts_in.result c.in-Ok.texts fits c.texts_in.ensures c.in-Ok.is in
    let same = c.in-Ok-copies_of.ensures ∙ ap (map (λ s. s.now)) c.as_slice.ensures.value in
    subst (λ (l : Texts). IsGiving c.args.payload.now l) (sym same) given

pub returns-in-Err-clause-heard : goal.returns-in-Err-clause-heard
returns-in-Err-clause-heard c =
    let fits : IsBytes c.args.payload.now = λ i. omega (arith, c.type_inv.payload i) in
    let given = was_given (λ t. map (λ s. s.now) t.items) c.args.payload.now c.texts_in.result c.in-Ok.texts fits c.texts_in.ensures c.in-Ok.is in
    (map (λ s. s.now) c.in-Ok.texts.items, given)
