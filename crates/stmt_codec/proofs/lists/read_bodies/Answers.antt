use Rattle.std.proofs.Common.{arith}
use Rattle.stmt_codec.specs.View.{certificates}
use Rattle.stmt_codec.proofs.Listed.{is_found, is_only}
use Rattle.stmt_codec.proofs.lists.read_bodies.Goals as goal

pub returns-clause-found : goal.returns-clause-found
returns-clause-found c =
    is_found c.args.most (omega arith) c.args.bytes.now c.args.at (λ x. certificates x.items) c.certs_up_to.result c.requires (λ i. omega (arith, c.type_inv.bytes i)) c.certs_up_to.ensures.value

pub returns-clause-only : goal.returns-clause-only
returns-clause-only c = is_only c.args.most (omega arith) c.args.bytes.now c.args.at (λ x. certificates x.items) c.certs_up_to.result c.certs_up_to.ensures.value
