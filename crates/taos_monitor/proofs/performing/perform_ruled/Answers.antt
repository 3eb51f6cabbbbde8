-- what is denied is not performed
use Rattle.std.proofs.Common.{[], None, refl, sym, subst}
use Rattle.object_core.specs.declared.ruling.Ruling.{Ruling}
use Rattle.object_core.specs.View.{operation}
use Rattle.request_course.specs.Cells.{shards_in}
use Rattle.request_course.specs.Effects.{IsPerformed}
use Rattle.taos_monitor.specs.Performing.{PerformedAs, SteppedBy}
use Rattle.request_course.specs.Operations.{effect_of}
use Rattle.request_course.proofs.Going.{shards_stood}
use Rattle.taos_monitor.proofs.performing.perform_ruled.Goals as goal

pub returns-in-Denied-clause-performed : goal.returns-in-Denied-clause-performed
returns-in-Denied-clause-performed g c = λ certs reading due.
    let seen = g.S.Shards.shown c.args.shards.now in
    subst (λ (r : Ruling). SteppedBy seen seen (λ steps. PerformedAs r (IsPerformed seen.plans seen.seen (operation c.args.op.now) (effect_of (operation c.args.op.now) certs reading)) steps None)) (sym c.in-Denied.is)
    (record { steps = []; goes_on = shards_stood seen.alone (shards_in seen); legal = c.requires.legal; ends = (refl, refl) })
