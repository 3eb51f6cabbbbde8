use Rattle.std.proofs.Common.{arith}
use Rattle.stmt_codec.specs.Certificates.{certificate}
use Rattle.stmt_codec.proofs.Certs.{is_found, is_only}
use Rattle.stmt_codec.proofs.reading.read_bare_body.Goals as goal

pub returns-clause-found : goal.returns-clause-found
returns-clause-found c = is_found certificate c.args.at c.args.bytes.now c.fields_of.result c.requires (λ i. omega (arith, c.type_inv.bytes i)) c.fields_of.ensures.value

pub returns-clause-only : goal.returns-clause-only
returns-clause-only c = is_only certificate c.args.at c.args.bytes.now c.fields_of.result c.requires c.fields_of.ensures.value
