use Rattle.taos_calculus.specs.Numbered.{for_both}
use Rattle.taos_saturate.proofs.Steps.{no_for, no_for_to, for_lacks}
use Rattle.taos_saturate.proofs.saturation.Saturation.by_for.Goals as goal

pub returns-in-Some : goal.returns-in-Some
returns-in-Some c = for_both c.in-For.ensures.stands c.in-For-node.ensures.stands c.in-Some.ensures.0 c.in-Some.ensures.1

pub returns-in_default : goal.returns-in_default
returns-in_default c = no_for c.args.self.now c.args.left c.args.right c.node.result c.node.ensures.stands c.in_default.not-For

pub returns-in_default-node : goal.returns-in_default-node
returns-in_default-node c = no_for_to c.args.self.now c.args.left c.args.right c.node-in-For.result c.node-in-For.ensures.stands c.in_default-node.not-For

pub returns-in_default-both_speak : goal.returns-in_default-both_speak
returns-in_default-both_speak c = for_lacks c.args.self.now c.args.left c.args.right c.in-For.a c.in-For.b c.in-For-node.c c.in-For-node.d c.in-For.ensures.stands c.in-For-node.ensures.stands c.in_default-both_speak.ensures
