-- an effect is told neither what an Ask is told nor what a Keep is
use Rattle.std.proofs.Common.{subst}
use Rattle.std.specs.Prelude.{OnErr}
use Rattle.agent_core.specs.Answers.{TakesMemory}
use Rattle.agent_core.specs.Journals.{told_at}
use Rattle.agent_core.specs.Views.{event_of}
use Rattle.agent_core.proofs.Asks.{standing}
use Rattle.taos_monitor.proofs.EffectSteps.{never_asked}
use Rattle.request_course.proofs.EffectTold.{takes_none}
use Rattle.taos_monitor.proofs.stepping.step_one.Goals as goal

pub unreachable-requires : goal.unreachable-requires
unreachable-requires g c =
    let (plan, at) = standing (g.S.Shards.shown c.args.shards.now).plans c.args.number c.requires.there in
    takes_none plan ((g.S.Shards.shown c.step.new.self).seen c.args.number) (event_of c.args.event) c.requires.effect
    (subst (λ r. OnErr r (TakesMemory (told_at plan ((g.S.Shards.shown c.step.new.self).seen c.args.number) (event_of c.args.event)))) c.in_default.is (c.step.ensures.here plan at).wanted)

pub unreachable-requires-in-Replayed : goal.unreachable-requires-in-Replayed
unreachable-requires-in-Replayed g c =
    let (plan, at) = standing (g.S.Shards.shown c.args.shards.now).plans c.args.number c.requires.there in
    never_asked plan _ _ _ _ c.in-Ok.answer c.requires.effect (c.in-Ok.ensures.here plan at).steps c.in-Replayed.is
