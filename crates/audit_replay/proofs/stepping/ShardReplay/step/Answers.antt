use Rattle.journal_bytes.specs.View.{entry_seen}
use Rattle.audit_replay.proofs.SoundSteps.{step_sound}
use Rattle.audit_replay.proofs.stepping.ShardReplay.step.Goals as goal

pub returns-in_ok-push-in-Ok-clause-sound : goal.returns-in_ok-push-in-Ok-clause-sound
returns-in_ok-push-in-Ok-clause-sound g c = λ plans names number absent sound.
    let steps = rw c.in-Ok.is at c.in_ok-answer.ensures.stepped in
    step_sound plans names number c.args.self.now (record { shard = c.step_by.new.shard; marks = c.push.new.self; lists = c.step_by.new.lists }) (entry_seen c.args.entry) c.in-Ok.answer c.due_by-mark.result c.step_by.ensures.plan c.in_ok-push-in-Ok.ensures.items steps c.due_by-mark.ensures absent sound
