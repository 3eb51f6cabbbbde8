use Rattle.taos_saturate.specs.Saturating.{IsNew}
use Rattle.taos_saturate.proofs.Steps.{for_none}
use Rattle.taos_saturate.proofs.saturation.Saturation.new_about.Goals as goal

pub returns-in-None : goal.returns-in-None
returns-in-None c =
    for_none c.new_by_lift.result (IsNew c.args.self.now) (λ h p e. (c.in-None.ensures p e, h p e)) c.new_by_lift.ensures
