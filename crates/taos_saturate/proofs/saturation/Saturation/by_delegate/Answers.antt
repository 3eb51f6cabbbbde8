use Rattle.taos_calculus.specs.Numbered.{delegate}
use Rattle.taos_saturate.proofs.Steps.{no_delegate, no_delegate_to}
use Rattle.taos_saturate.proofs.saturation.Saturation.by_delegate.Goals as goal

pub returns-in-Some : goal.returns-in-Some
returns-in-Some c = delegate (rw (c.if-b-c.true, c.if-a-d.true) at c.in-Quote.ensures.stands) (c.in-For.ensures.stands) (rw c.if-a-d.true at c.in-Some.ensures)

pub returns-in_default : goal.returns-in_default
returns-in_default c = no_delegate c.args.self.now c.args.left c.args.right c.node.result c.node.ensures.stands c.in_default.not-Quote

pub returns-in_default-node : goal.returns-in_default-node
returns-in_default-node c = no_delegate_to c.args.self.now c.args.left c.args.right c.node-in-Quote.result c.node-in-Quote.ensures.stands c.in_default-node.not-For
