use Rattle.taos_saturate.proofs.Chaining.{line_in, full_by_chain, full_by_says, full_by_speaks}
use Rattle.taos_saturate.proofs.Steps.{for_none}
use Rattle.taos_saturate.proofs.saturation.Saturation.new_by_line.Goals as goal

pub new_by_chain-requires : goal.new_by_chain-requires
new_by_chain-requires c =
    let h = line_in c.args.self.now c.args.number c.line-line.result c.line-line.ensures c.requires.ready c.in-Speaks.left c.in-Speaks.right c.in-Speaks.is in
    record { ready = c.requires.ready; left_in = h.0; middle_in = h.1 }

pub returns-in-Chain : goal.returns-in-Chain
returns-in-Chain c = full_by_chain c.args.self.now c.args.number c.line-line.result c.line-line.ensures c.in-Chain.first c.in-Chain.second c.in-Chain.is

pub returns-in-Speaks : goal.returns-in-Speaks
returns-in-Speaks c =
    for_none c.new_by_chain.result _ (full_by_speaks c.args.self.now c.args.number c.line-line.result c.line-line.ensures c.in-Speaks.left c.in-Speaks.right c.in-Speaks.is) c.new_by_chain.ensures

pub returns-in-Says : goal.returns-in-Says
returns-in-Says c = full_by_says c.args.self.now c.args.number c.line-line.result c.line-line.ensures c.in-Says.who c.in-Says.left c.in-Says.right c.in-Says.is
