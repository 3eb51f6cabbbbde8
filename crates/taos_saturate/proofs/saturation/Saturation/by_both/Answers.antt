use Rattle.taos_calculus.specs.Numbered.{both}
use Rattle.taos_saturate.proofs.Steps.{no_both}
use Rattle.taos_saturate.proofs.saturation.Saturation.by_both.Goals as goal

pub returns-in-Some : goal.returns-in-Some
returns-in-Some c = both c.in-And.ensures.stands c.in-Some.ensures.0 c.in-Some.ensures.1

pub returns-in_default : goal.returns-in_default
returns-in_default c = no_both c.args.self.now c.args.left c.args.right c.node.result c.node.ensures.stands c.in_default.not-And
