use Rattle.taos_calculus.specs.declared.line.Fact.{Fact}
use Rattle.taos_saturate.specs.Saturating.{GivesIn}
use Rattle.taos_calculus.specs.Numbered.{same}
use Rattle.taos_saturate.proofs.Steps.{for_none, no_speaks}
use Rattle.taos_saturate.proofs.saturation.Saturation.find_speaks.Goals as goal

pub returns-then-left-right : goal.returns-then-left-right
returns-then-left-right c = rw c.if-left-right.true same

pub returns : goal.returns
returns c = for_none c.by_delegate.result (GivesIn c.args.self.now (Fact.Speaks c.args.left c.args.right))
    (λ h. no_speaks c.args.self.now c.args.left c.args.right c.if-left-right.false c.in_default.ensures
    c.in_default-by_both.ensures c.in_default-by_quote.ensures c.in_default-by_for.ensures c.in_default-by_role.ensures
    c.in_default-by_role_under.ensures c.in_default-by_anchor.ensures c.in_default-by_hand_off.ensures h) c.by_delegate.ensures
