use Rattle.taos_calculus.specs.Numbered.{quoting}
use Rattle.taos_saturate.proofs.Steps.{no_quoting, no_quoting_to, quoting_lacks}
use Rattle.taos_saturate.proofs.saturation.Saturation.by_quote.Goals as goal

pub returns-in-Some : goal.returns-in-Some
returns-in-Some c = quoting c.in-Quote.ensures.stands c.in-Quote-node.ensures.stands c.in-Some.ensures.0 c.in-Some.ensures.1

pub returns-in_default : goal.returns-in_default
returns-in_default c = no_quoting c.args.self.now c.args.left c.args.right c.node.result c.node.ensures.stands c.in_default.not-Quote

pub returns-in_default-node : goal.returns-in_default-node
returns-in_default-node c = no_quoting_to c.args.self.now c.args.left c.args.right c.node-in-Quote.result c.node-in-Quote.ensures.stands c.in_default-node.not-Quote

pub returns-in_default-both_speak : goal.returns-in_default-both_speak
returns-in_default-both_speak c = quoting_lacks c.args.self.now c.args.left c.args.right c.in-Quote.a c.in-Quote.b c.in-Quote-node.c c.in-Quote-node.d c.in-Quote.ensures.stands c.in-Quote-node.ensures.stands c.in_default-both_speak.ensures
