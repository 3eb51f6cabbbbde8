use Rattle.std.proofs.Common.{◌∙◌, Some, ap, sym}
use Rattle.std.proofs.lemmas.Bool.{false≢true}
use Rattle.agent_core.specs.declared.told.Told.{Told}
use Rattle.agent_core.specs.Views.{event_of}
use Rattle.audit_replay.proofs.OneStep.{event_again, stepped_so, told_otherwise, untaken}
use Rattle.audit_replay.proofs.SameTold.{so_told, told_so}
use Rattle.audit_replay.proofs.stepping.step_event.Goals as goal

pub returns-then-not-takes-clause-stepped : goal.returns-then-not-takes-clause-stepped
returns-then-not-takes-clause-stepped c = λ e fits told from why.
    untaken c.args.shard.now.plan c.args.shard.now.journal e c.args.cause c.requires.room why (event_of c.args.event) fits from (λ both. false≢true (c.if-not-takes.ensures.1 both))

pub returns-then-eq-clause-stepped : goal.returns-then-eq-clause-stepped
returns-then-eq-clause-stepped c = λ e fits told from why.
    let s = c.args.shard.now in
    let same = sym c.told_by.ensures ∙ told_so c.told_by.result c.args.told (sym c.eq.ensures ∙ c.if-eq.true) ∙ ap (λ (t : Told). Some t) (sym told) in
    stepped_so s.plan s.journal (event_of c.args.event) c.step.new.self.journal c.in_ok-answer.field-0-0 c.in_ok-answer.answer e c.in_ok-answer.ensures.answered same (event_again s.journal e.event (event_of c.args.event) from)

pub returns-else-eq-clause-stepped : goal.returns-else-eq-clause-stepped
returns-else-eq-clause-stepped c = λ e fits told from why.
    let s = c.args.shard.now in
    told_otherwise s.plan s.journal (event_of c.args.event) c.step.new.self.journal c.in_ok-answer.field-0-0 c.in_ok-answer.answer e c.requires.room (c.takes.ensures.0 c.if-not-takes.false).0 from c.in_ok-answer.ensures.answered
    (λ same. false≢true (sym c.if-eq.false ∙ c.eq.ensures ∙ so_told c.told_by.result c.args.told (c.told_by.ensures ∙ same ∙ ap (λ (t : Told). Some t) told)))
