use Rattle.std.proofs.Common.{arith}
use Rattle.stmt_codec.specs.Certificates.{Certificate, certificate}
use Rattle.byte_fields.proofs.Results.{gives_found, gives_only}
use Rattle.sealed_cert.specs.declared.fault.SealFault.TheVariants.{NoMemory}
use Rattle.sealed_cert.specs.Seals.{Opens}
use Rattle.sealed_cert.specs.Refusals.{opened}
use Rattle.sealed_cert.proofs.Opened.{opened_takes, opened_again}
use Rattle.sealed_cert.proofs.opening.open_with.Goals as goal

pub returns-clause-found : goal.returns-clause-found
returns-clause-found c =
    let key = c.args.sealer.now in
    let bytes = c.args.bytes.now in
    gives_found (λ (d : Certificate). Opens key bytes d) NoMemory (λ cert. certificate cert.body) c.relayed_cert.result (opened key bytes) c.relayed_cert.ensures
    (λ d e. opened_takes key bytes d (λ i. omega (arith, c.type_inv.bytes i)) e)

pub returns-clause-only : goal.returns-clause-only
returns-clause-only c = λ d is.
    gives_only NoMemory (λ cert. certificate cert.body) c.relayed_cert.result (opened c.args.sealer.now c.args.bytes.now) d c.relayed_cert.ensures
    (opened_again c.args.sealer.now c.args.bytes.now d is)
