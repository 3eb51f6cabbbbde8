use Rattle.taos_calculus.specs.Numbered.{anchored}
use Rattle.taos_saturate.proofs.Steps.{no_anchor, no_anchor_to}
use Rattle.taos_saturate.proofs.saturation.Saturation.by_anchor.Goals as goal

pub returns-in-Some : goal.returns-in-Some
returns-in-Some c = anchored c.in-Some.ensures c.in-Key.ensures.stands c.in-Name.ensures.stands

pub returns-in_default : goal.returns-in_default
returns-in_default c = no_anchor c.args.self.now c.args.left c.args.right c.node.result c.node.ensures.stands c.in_default.not-Key

pub returns-in_default-node : goal.returns-in_default-node
returns-in_default-node c = no_anchor_to c.args.self.now c.args.left c.args.right c.node-in-Key.result c.node-in-Key.ensures.stands c.in_default-node.not-Name
