use Rattle.journal_bytes.specs.View.{entry_seen}
use Rattle.audit_replay.specs.Replays.{full}
use Rattle.audit_replay.proofs.OneStep.{has_room, is_full, unmade}
use Rattle.audit_replay.proofs.stepping.step_by.Goals as goal

pub returns-then-journal-plan-clause-stepped : goal.returns-then-journal-plan-clause-stepped
returns-then-journal-plan-clause-stepped c =
    let s = c.args.shard.now in
    full (is_full c.journal.result.now c.plan.result.now s.plan s.journal c.journal.ensures.value c.plan.ensures.value c.if-journal-plan.true)

pub returns-in-None-clause-stepped : goal.returns-in-None-clause-stepped
returns-in-None-clause-stepped c =
    let s = c.args.shard.now in
    let room = has_room c.journal.result.now c.plan.result.now s.plan s.journal c.journal.ensures.value c.plan.ensures.value c.if-journal-plan.false in
    let none = rw c.in-None.is at c.in_ok-event.ensures in
    unmade s.plan s.journal (entry_seen c.args.entry) c.unmeant-cause.result room c.unmeant-cause.ensures none
