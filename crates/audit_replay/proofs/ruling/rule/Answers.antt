use Rattle.std.proofs.Common.{◌∙◌, sym}
use Rattle.std.proofs.lemmas.Bool.{false≢true}
use Rattle.object_core.specs.ObjectView.{object_entry}
use Rattle.audit_replay.specs.Replays.{again, misruled, object_full, unasked}
use Rattle.audit_replay.proofs.Naming.{is_due, no_due, not_due, past}
use Rattle.audit_replay.specs.Stepping.{stepped_again}
use Rattle.audit_replay.proofs.SameTold.{ruling_so, so_ruling}
use Rattle.audit_replay.proofs.ruling.rule.Goals as goal

pub returns-then-not-has_room-clause-fails : goal.returns-then-not-has_room-clause-fails
returns-then-not-has_room-clause-fails c = λ cells names sound. object_full (past c.args.object.now.journal c.args.object.now.limit (λ less. false≢true (c.if-not-has_room.ensures.1 less)))

pub returns-in_default-clause-fails : goal.returns-in_default-clause-fails
returns-in_default-clause-fails c = λ cells names sound.
    let o = c.args.object.now in
    let e = object_entry c.args.entry in
    unasked (c.has_room.ensures.0 c.if-not-has_room.false) (no_due cells (stepped_again c.args.shards.now) names o.plan o.journal e c.due_to.result (λ d is. c.in_default.not-Some d is) (c.due_to.ensures.due cells names sound))

pub returns-then-due-clause-fails : goal.returns-then-due-clause-fails
returns-then-due-clause-fails c = λ cells names sound.
    let n = c.in-Some.ensures.due cells names sound in
    again (c.has_room.ensures.0 c.if-not-has_room.false) n.place_is (n.named_is.0 c.if-due.true)

pub returns-else-eq-clause-fails : goal.returns-else-eq-clause-fails
returns-else-eq-clause-fails c = λ cells names sound.
    let o = c.args.object.now in
    let e = object_entry c.args.entry in
    let n = c.in-Some.ensures.due cells names sound in
    misruled (c.has_room.ensures.0 c.if-not-has_room.false) n.place_is (λ has. false≢true (sym c.if-due.false ∙ n.named_is.1 has))
    (not_due cells (stepped_again c.args.shards.now) names o.plan o.journal e c.in-Some.due n (λ same. false≢true (sym c.if-eq.false ∙ c.eq.ensures ∙ so_ruling c.in-Some.due.ruling c.args.entry.ruling same)))

pub returns-then-eq-clause-rules : goal.returns-then-eq-clause-rules
returns-then-eq-clause-rules c = λ cells names sound.
    let o = c.args.object.now in
    let e = object_entry c.args.entry in
    let n = c.in-Some.ensures.due cells names sound in
    record {
      room = c.has_room.ensures.0 c.if-not-has_room.false;
      ruled = is_due cells (stepped_again c.args.shards.now) names o.plan o.journal e c.in-Some.due n (ruling_so c.in-Some.due.ruling c.args.entry.ruling (sym c.eq.ensures ∙ c.if-eq.true));
      new = λ has. false≢true (sym c.if-due.false ∙ n.named_is.1 has);
      sound = c.name_ask.ensures.sound cells names sound;
      journals = c.name_ask.ensures.journals;
    }
