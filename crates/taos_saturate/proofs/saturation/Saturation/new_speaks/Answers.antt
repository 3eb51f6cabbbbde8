use Rattle.taos_calculus.specs.declared.line.Step.{Step}
use Rattle.taos_calculus.specs.declared.line.Fact.{Fact}
use Rattle.taos_saturate.specs.Saturating.{GivesIn, IsNew}
use Rattle.taos_saturate.proofs.Steps.{for_both_cases, new_speaks}
use Rattle.taos_saturate.proofs.saturation.Saturation.new_speaks.Goals as goal

pub returns-in-None : goal.returns-in-None
returns-in-None c = for_both_cases c.find_speaks.result (GivesIn c.args.self.now (Fact.Speaks c.args.left c.args.right))
    (λ (step : Step). IsNew c.args.self.now record { fact = Fact.Speaks c.args.left c.args.right; step = step })
    (λ none step n g. absurd (none step n g))
    (λ step g. new_speaks c.args.self.now c.requires.ready c.args.left c.args.right step c.requires.left_in c.requires.right_in g c.in-None.ensures)
    c.find_speaks.ensures
