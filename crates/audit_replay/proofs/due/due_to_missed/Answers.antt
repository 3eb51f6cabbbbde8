use Rattle.std.proofs.Common.{◌≡◌, ◌∙◌, ◌+◌, ◌-◌, List, Some, Vec, true, ap, arith, length, replicate, subst, sym}
use Rattle.std.specs.declared.alloc.Global.{Global}
use Rattle.denial_link.proofs.Places.{certificate_count}
use Rattle.prin_term.specs.declared.term.Anchor.{Anchor}
use Rattle.stmt_codec.specs.View.{certificates}
use Rattle.taos_calculus.specs.Question.{IsAskable}
use Rattle.agent_core.specs.State.{Plan}
use Rattle.agent_core.specs.Views.{ask_of}
use Rattle.audit_replay.specs.declared.due.Due.{Due}
use Rattle.audit_replay.specs.Legal.{IsRulingBy}
use Rattle.audit_replay.specs.Stepping.{IsLastMark}
use Rattle.audit_replay.proofs.LastAsk.{missed_askable, missed_mark, missed_some}
use Rattle.audit_replay.proofs.due.due_to_missed.Goals as goal

pub ruling_by-requires : goal.ruling_by-requires
ruling_by-requires g c =
    let s = c.args.shard.now in
    let entries = c.journal-entries.result.now in
    let snapshot = c.args.snapshot.now in
    let certs = certificates snapshot.certs.items in
    let asked = ask_of c.in-Some.asked.now in
    let anchors : c.deref-in-Some.result.now ≡ s.plan.anchors = c.deref-in-Some.ensures.value ∙ ap (λ (v : Vec Anchor Global). v.items) c.deref.ensures ∙ ap (λ (p : Plan). p.anchors) c.plan.ensures.value in
    let end : (length entries - 1) + 1 ≡ length entries = omega (arith, missed_some s.plan s.journal snapshot.moment certs c.requires entries c.journal-entries.ensures.value) in
    subst (λ (l : List Anchor). IsAskable l certs (replicate (length snapshot.certs.items) true) asked.subject asked.list) (sym anchors)
    (missed_askable s.plan s.journal snapshot.moment certs c.requires entries c.journal-entries.ensures.value (length entries - 1) end asked (length snapshot.certs.items) c.plan.ensures.planned (certificate_count snapshot.certs.items) c.in-Some.ensures)

pub returns-in-Some : goal.returns-in-Some
returns-in-Some g c =
    let s = c.args.shard.now in
    let entries = c.journal-entries.result.now in
    let snapshot = c.args.snapshot.now in
    let certs = certificates snapshot.certs.items in
    let asked = ask_of c.in-Some.asked.now in
    let anchors : c.deref-in-Some.result.now ≡ s.plan.anchors = c.deref-in-Some.ensures.value ∙ ap (λ (v : Vec Anchor Global). v.items) c.deref.ensures ∙ ap (λ (p : Plan). p.anchors) c.plan.ensures.value in
    let end : (length entries - 1) + 1 ≡ length entries = omega (arith, missed_some s.plan s.journal snapshot.moment certs c.requires entries c.journal-entries.ensures.value) in
    subst (λ (d : Due). IsLastMark s.plan s.journal (Some d)) (sym c.unnamed.ensures)
    (missed_mark s.plan s.journal snapshot.moment certs c.requires entries c.journal-entries.ensures.value (length entries - 1) end asked c.ruling_by.result c.in-Some.ensures
    (subst (λ (l : List Anchor). IsRulingBy l certs snapshot.moment asked c.ruling_by.result) anchors c.ruling_by.ensures))
