use Rattle.taos_calculus.specs.Numbered.{left, right}
use Rattle.taos_saturate.proofs.Steps.{no_left, no_right, left_differs, right_differs}
use Rattle.taos_saturate.proofs.saturation.Saturation.by_and.Goals as goal

pub returns-then-a-right : goal.returns-then-a-right
returns-then-a-right c = rw (← c.if-a-right.true) (left c.in-And.ensures.stands)

pub returns-then-b-right : goal.returns-then-b-right
returns-then-b-right c = rw (← c.if-b-right.true) (right c.in-And.ensures.stands)

pub returns-else-b-right : goal.returns-else-b-right
returns-else-b-right c = (left_differs c.args.self.now c.args.left c.args.right c.in-And.a c.in-And.b c.in-And.ensures.stands c.if-a-right.false, right_differs c.args.self.now c.args.left c.args.right c.in-And.a c.in-And.b c.in-And.ensures.stands c.if-b-right.false)

pub returns-in_default : goal.returns-in_default
returns-in_default c = (no_left c.args.self.now c.args.left c.args.right c.node.result c.node.ensures.stands c.in_default.not-And, no_right c.args.self.now c.args.left c.args.right c.node.result c.node.ensures.stands c.in_default.not-And)
