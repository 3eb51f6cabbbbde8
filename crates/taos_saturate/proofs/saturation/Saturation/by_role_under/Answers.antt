use Rattle.taos_calculus.specs.Numbered.{role_under}
use Rattle.taos_saturate.proofs.Steps.{no_role_under, no_role_under_to}
use Rattle.taos_saturate.proofs.saturation.Saturation.by_role_under.Goals as goal

pub returns-in-Some : goal.returns-in-Some
returns-in-Some c = role_under (rw c.if-role-other.true at c.in-AsRole.ensures.stands) c.in-AsRole-node.ensures.stands c.in-Some.ensures

pub returns-in_default : goal.returns-in_default
returns-in_default c = no_role_under c.args.self.now c.args.left c.args.right c.node.result c.node.ensures.stands c.in_default.not-AsRole

pub returns-in_default-node : goal.returns-in_default-node
returns-in_default-node c = no_role_under_to c.args.self.now c.args.left c.args.right c.node-in-AsRole.result c.node-in-AsRole.ensures.stands c.in_default-node.not-AsRole
