use Rattle.taos_calculus.specs.declared.line.Fact.{Fact}
use Rattle.taos_saturate.specs.Saturating.{GivesIn}
use Rattle.taos_saturate.proofs.Steps.{for_none, no_says}
use Rattle.taos_saturate.proofs.saturation.Saturation.find_says.Goals as goal

pub returns : goal.returns
returns c = for_none c.by_join.result (GivesIn c.args.self.now (Fact.Says c.args.who c.args.left c.args.right))
    (λ h. no_says c.args.self.now c.args.who c.args.left c.args.right c.in_default.ensures h) c.by_join.ensures
