-- what the event did is what the step promises
use Rattle.std.proofs.Common.{◌≡◌, length, map, ◌∙◌, sym, subst}
use Rattle.agent_core.specs.Answers.{Stepped}
use Rattle.agent_core.specs.Journals.{ShardSeen}
use Rattle.agent_core.specs.Views.{entry_of, event_of, plan_of}
use Rattle.shard_core.proofs.Stepping.{answered_steps, shard_answered, shard_stays}
use Rattle.shard_core.proofs.shard.Shard.step.Goals as goal

pub returns-clause-answered : goal.returns-clause-answered
returns-clause-answered c =
    let place : c.len-place.result ≡ length c.self.inside.entries.items = c.len-place.ensures ∙ c.self.inside.entries.ok.0 in
    subst (λ (v : ShardSeen). Stepped v.plan v.journal (event_of c.args.event) (map entry_of c.answer_to.new.entries.items) c.len-place.result c.in_ok-answer.answer) c.self.view_is
    (subst (λ n. Stepped (plan_of c.self.inside.plan) (map entry_of c.self.inside.entries.items) (event_of c.args.event) (map entry_of c.answer_to.new.entries.items) n c.in_ok-answer.answer) (sym place)
    (answered_steps (plan_of c.self.inside.plan) c.self.inside.entries (event_of c.args.event) c.answer_to.new.entries c.answer_to.new.store c.in_ok-answer.answer c.in_ok-answer.ensures.answered))

pub invariant_of-self : goal.invariant_of-self
invariant_of-self c =
    shard_stays (plan_of c.self.inside.plan) c.self.inside.entries c.self.inside.store c.self.inside.cache c.self.invariant
    c.answer_to.new.entries c.answer_to.new.store c.answer_to.new.cache c.in_err-answer.ensures.unchanged

pub invariant_of-self-2 : goal.invariant_of-self-2
invariant_of-self-2 c =
    shard_answered (plan_of c.self.inside.plan) c.self.inside.entries c.self.inside.store c.self.inside.cache c.self.invariant
    c.answer_to.new.entries c.answer_to.new.store c.answer_to.new.cache (event_of c.args.event) c.in_ok-answer.answer c.in_ok-answer.ensures.answered c.requires.fits c.in_ok-answer.ensures.cached
