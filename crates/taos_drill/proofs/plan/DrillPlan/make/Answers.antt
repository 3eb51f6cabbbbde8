use Rattle.std.proofs.Common.{refl, ◌∙◌}
use Rattle.taos_drill.specs.Opened.{drill_opening}
use Rattle.taos_drill.proofs.Fitting.{fits_by_number, opening_fits}
use Rattle.taos_drill.proofs.plan.DrillPlan.make.Goals as goal

pub returns-clause-fits : goal.returns-clause-fits
returns-clause-fits c =
    let seed = c.args.seed in
    let meant = c.in_ok-opening.ensures seed (c.deref.ensures.value ∙ c.in_ok-keys.ensures.keys) in
    fits_by_number c.in_ok-opening.opening (drill_opening seed c.args.requests c.args.lanes) (opening_fits c.args.lanes c.requires.few_lanes seed c.args.requests c.requires.few_requests) refl meant
