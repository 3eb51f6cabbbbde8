use Rattle.std.proofs.Common.{Some, ap, subst, sym}
use Rattle.std.specs.Arc.{arc_value}
use Rattle.proof_cache.specs.Cached.{cached}
use Rattle.proof_cache.specs.declared.cached.Cached.{Cached as CachedValue}
use Rattle.agent_core.specs.Answers.{given_by}
use Rattle.audit_replay.specs.declared.due.Due.{Due}
use Rattle.audit_replay.specs.Stepping.{IsLastMark}
use Rattle.audit_replay.proofs.LastMark.{hit_mark, other_mark}
use Rattle.audit_replay.proofs.due.due_by.Goals as goal

pub returns-in-Hit : goal.returns-in-Hit
returns-in-Hit g c =
    let s = c.args.shard.now in
    subst (λ (d : Due). IsLastMark s.plan s.journal (Some d)) (sym c.unnamed.ensures)
    (hit_mark s.plan s.journal c.args.answer.now c.requires c.in-Hit.entry (cached (arc_value {X = CachedValue} c.in-Hit.cached)) (ap given_by c.in-Hit.is))

pub due_to_missed-requires : goal.due_to_missed-requires
due_to_missed-requires g c = record { answer = c.args.answer.now; stepped = c.requires; missed = ap given_by c.in-Miss.is }

pub returns-in-Miss : goal.returns-in-Miss
returns-in-Miss g c = c.due_to_missed.ensures

pub returns-in-Replayed : goal.returns-in-Replayed
returns-in-Replayed g c = other_mark c.args.shard.now.plan c.args.shard.now.journal c.args.answer.now c.requires c.in-Replayed.is
