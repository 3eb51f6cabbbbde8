use Rattle.std.proofs.Common.{arith, sym, subst}
use Rattle.frame_link.specs.Relay.{Said, IsSaid}
use Rattle.relay_core.proofs.Cases.{that_case, has_code}
use Rattle.relay_core.proofs.resealing.reseal.Goals as goal

-- the case that holds is what is said
pub returns-clause-judged : goal.returns-clause-judged
returns-clause-judged c = λ said is.
    let issuers = c.args.table.now.issuers.entries in
    let nodes = c.args.table.now.nodes.entries in
    let same = that_case issuers nodes c.args.node c.args.bytes.now said (λ i. omega (arith, c.type_inv.bytes i)) is in
    subst (λ (s : Said). IsSaid s c.answer.result c.answer.new.out.items) (sym same) c.answer.ensures

-- whatever is said has one of the codes
pub returns-clause-codes : goal.returns-clause-codes
returns-clause-codes c = has_code c.args.table.now.issuers.entries c.args.table.now.nodes.entries c.args.node c.args.bytes.now c.answer.result c.answer.new.out.items c.answer.ensures
