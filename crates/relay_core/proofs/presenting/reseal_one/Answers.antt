-- one call of the link
use Rattle.std.proofs.Common.{ℕ, List, Ok, refl, sym, subst, inr}
use Rattle.frame_link.specs.declared.outside.Failed.{Failed}
use Rattle.frame_link.specs.declared.outside.RelayAnswer.{RelayAnswer}
use Rattle.frame_link.specs.Relay.{AnswersAs, HasRelayCode}
use Rattle.std.specs.Arc.{arc_value}
use Rattle.stmt_codec.specs.Certificates.{certificate}
use Rattle.relay_core.specs.Credentials as answers
use Rattle.relay_core.specs.Credentials.{IsToldAs, call, Resealed, Refused, refused}
use Rattle.relay_core.proofs.Coming.{on_ok, on_err, one_call, said_new, said_code, told_lacked, comes_by_relay, stops_resealed, stops_called, stops_failed}
use Rattle.relay_core.proofs.presenting.reseal_one.Goals as goal

pub returns-in-Ok-Resealed-clause-came : goal.returns-in-Ok-Resealed-clause-came
returns-in-Ok-Resealed-clause-came g c =
    let before = g.R.RelayLink.shown c.args.link.now in
    let now = g.R.RelayLink.shown c.reseal.new.self in
    let told = subst (λ (l : List ℕ). IsToldAs before.says c.args.node (call c.args.text.now (Resealed l))) (sym c.deref.ensures.0)
    (said_new Failed before.says c.args.node c.args.text.now c.reseal.new.out.items
    (subst (λ (a : RelayAnswer). AnswersAs {E = Failed} before.says c.args.node c.args.text.now (Ok a) c.reseal.new.out.items) c.in-Ok-Resealed.field-0-is c.in-Ok-Resealed.ensures.reseals.answers)) in
    on_ok c.accept.result
    (λ cert is. comes_by_relay c.args.node c.args.opened.now c.args.text.now c.deref.result.now before now (certificate (arc_value cert).body)
    (one_call before now c.args.node c.args.text.now c.reseal.new.out.items c.reseal.result (Resealed c.deref.result.now) c.reseal.ensures.reseals) told c.in-Ok-Resealed.ensures.cause.steady is)
    c.accept.ensures.resealed

pub returns-in-Ok-Resealed-clause-stopped : goal.returns-in-Ok-Resealed-clause-stopped
returns-in-Ok-Resealed-clause-stopped g c =
    let before = g.R.RelayLink.shown c.args.link.now in
    let now = g.R.RelayLink.shown c.reseal.new.self in
    let told = subst (λ (l : List ℕ). IsToldAs before.says c.args.node (call c.args.text.now (Resealed l))) (sym c.deref.ensures.0)
    (said_new Failed before.says c.args.node c.args.text.now c.reseal.new.out.items
    (subst (λ (a : RelayAnswer). AnswersAs {E = Failed} before.says c.args.node c.args.text.now (Ok a) c.reseal.new.out.items) c.in-Ok-Resealed.field-0-is c.in-Ok-Resealed.ensures.reseals.answers)) in
    on_err c.accept.result
    (λ f why. stops_resealed c.args.node c.args.opened.now c.args.text.now c.deref.result.now before now f c.requires.issued
    (one_call before now c.args.node c.args.text.now c.reseal.new.out.items c.reseal.result (Resealed c.deref.result.now) c.reseal.ensures.reseals) told c.in-Ok-Resealed.ensures.cause.steady why)
    c.accept.ensures.refused

pub returns-in-Ok-Refused-clause-stopped : goal.returns-in-Ok-Refused-clause-stopped
returns-in-Ok-Refused-clause-stopped g c =
    let before = g.R.RelayLink.shown c.args.link.now in
    let now = g.R.RelayLink.shown c.reseal.new.self in
    let node = c.args.node in
    let text = c.args.text.now in
    let code = c.in-Ok-Refused.code in
    let told = said_code Failed before.says node code text c.reseal.new.out.items
    (subst (λ (a : RelayAnswer). AnswersAs {E = Failed} before.says node text (Ok a) c.reseal.new.out.items) c.in-Ok-Refused.field-0-is c.in-Ok-Refused.ensures.reseals.answers) in
    stops_called node c.args.opened.now text before now (Refused code) _
    (one_call before now node text c.reseal.new.out.items c.reseal.result (Refused code) c.reseal.ensures.reseals) told (λ e. cc) c.in-Ok-Refused.ensures.cause.steady
    (refused c.requires.issued (subst HasRelayCode c.in-Ok-Refused.field-0-is c.in-Ok-Refused.ensures.codes))

-- it was called, so want of memory comes after its answer
pub returns-in-Ok-NoMemory-clause-stopped : goal.returns-in-Ok-NoMemory-clause-stopped
returns-in-Ok-NoMemory-clause-stopped g c =
    let before = g.R.RelayLink.shown c.args.link.now in
    let now = g.R.RelayLink.shown c.reseal.new.self in
    let node = c.args.node in
    let text = c.args.text.now in
    stops_called node c.args.opened.now text before now answers.Lacked _
    (one_call before now node text c.reseal.new.out.items c.reseal.result answers.Lacked c.reseal.ensures.reseals) (told_lacked before.says node text) (λ e. cc) c.in-Ok-NoMemory.ensures.cause.steady
    (inr (c.requires.issued, (answers.Lacked, (λ e. cc), refl)))

pub returns-in-Err-clause-stopped : goal.returns-in-Err-clause-stopped
returns-in-Err-clause-stopped g c =
    let before = g.R.RelayLink.shown c.args.link.now in
    let now = g.R.RelayLink.shown c.reseal.new.self in
    let node = c.args.node in
    let text = c.args.text.now in
    stops_failed node c.args.opened.now text before now c.requires.issued
    (one_call before now node text c.reseal.new.out.items c.reseal.result answers.Failed c.reseal.ensures.reseals) c.in-Err.ensures.cause.later c.in-Err.ensures.cause.failed
