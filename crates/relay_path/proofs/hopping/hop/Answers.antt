use Rattle.std.proofs.Common.{arith, sym, subst}
use Rattle.frame_link.specs.Relay.{Said}
use Rattle.relay_path.specs.Domains.{knows}
use Rattle.relay_path.specs.Hopping.{IsHopSaid}
use Rattle.relay_path.proofs.Cases.{that_case, has_code}
use Rattle.relay_path.proofs.hopping.hop.Goals as goal

-- the case that holds is what is said
pub returns-clause-judged : goal.returns-clause-judged
returns-clause-judged c = λ said is.
    let same = that_case (knows c.args.domain.now) c.args.target c.args.bytes.now said (λ i. omega (arith, c.type_inv.bytes i)) is in
    subst (λ (s : Said). IsHopSaid s c.answer.result c.answer.new.out.items) (sym same) c.answer.ensures

-- whatever is said has one of the codes
pub returns-clause-codes : goal.returns-clause-codes
returns-clause-codes c = has_code (knows c.args.domain.now) c.args.target c.args.bytes.now c.answer.result c.answer.new.out.items (λ i. omega (arith, c.type_inv.bytes i)) c.answer.ensures
