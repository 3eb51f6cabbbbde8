use Rattle.std.proofs.Common.{arith}
use Rattle.prin_term.proofs.Whole.{is_found, is_only, is_refused, is_refused_only}
use Rattle.prin_term.proofs.reading.read_term.Goals as goal

pub returns-clause-found : goal.returns-clause-found
returns-clause-found c = is_found c.args.nodes c.args.at c.args.bytes.now c.term_at.result c.requires (λ i. omega (arith, c.type_inv.bytes i)) c.term_at.ensures.value

pub returns-clause-only : goal.returns-clause-only
returns-clause-only c = is_only c.args.nodes c.args.at c.args.bytes.now c.term_at.result c.requires c.term_at.ensures.value

pub returns-clause-refused : goal.returns-clause-refused
returns-clause-refused c = is_refused c.args.nodes c.args.at c.args.bytes.now c.term_at.result c.requires (λ i. omega (arith, c.type_inv.bytes i)) c.term_at.ensures.value

pub returns-clause-refused_only : goal.returns-clause-refused_only
returns-clause-refused_only c = is_refused_only c.args.nodes c.args.at c.args.bytes.now c.term_at.result c.requires c.term_at.ensures.value
