use Rattle.taos_calculus.specs.Numbered.{role}
use Rattle.taos_saturate.proofs.Steps.{no_role}
use Rattle.taos_saturate.proofs.saturation.Saturation.by_role.Goals as goal

pub returns-then-a-left : goal.returns-then-a-left
returns-then-a-left c = rw (← c.if-a-left.true) (role c.in-AsRole.ensures.stands)

pub returns-in_default : goal.returns-in_default
returns-in_default c = no_role c.args.self.now c.args.left c.args.right c.node.result c.node.ensures.stands c.in_default.not-AsRole
