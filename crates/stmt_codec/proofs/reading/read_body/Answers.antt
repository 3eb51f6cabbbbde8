use Rattle.std.proofs.Common.{arith}
use Rattle.stmt_codec.specs.Certificates.{certificate}
use Rattle.stmt_codec.proofs.Certs.{is_found, is_only}
use Rattle.stmt_codec.proofs.reading.read_body.Goals as goal

pub returns-clause-found : goal.returns-clause-found
returns-clause-found c = is_found (λ x. certificate x.body) c.args.at c.args.bytes.now c.cert_at.result c.requires (λ i. omega (arith, c.type_inv.bytes i)) c.cert_at.ensures.value

pub returns-clause-only : goal.returns-clause-only
returns-clause-only c = is_only (λ x. certificate x.body) c.args.at c.args.bytes.now c.cert_at.result c.requires c.cert_at.ensures.value
