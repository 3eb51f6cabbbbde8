use Rattle.std.proofs.Common.{arith}
use Rattle.stmt_codec.specs.Certificates.{Certificate, certificate}
use Rattle.byte_fields.proofs.Results.{gives_found, gives_only}
use Rattle.sealed_cert.specs.declared.fault.SealFault.TheVariants.{NoMemory}
use Rattle.sealed_cert.specs.Seals.{OpensIssued}
use Rattle.sealed_cert.specs.Refusals.{opened_issued}
use Rattle.sealed_cert.proofs.Opened.{issued_takes, issued_again}
use Rattle.sealed_cert.proofs.opening.open_issued.Goals as goal

pub returns-clause-found : goal.returns-clause-found
returns-clause-found c =
    let entries = c.args.table.now.entries in
    let bytes = c.args.bytes.now in
    gives_found (λ (d : Certificate). OpensIssued entries bytes d) NoMemory (λ cert. certificate cert.body) c.issued_cert.result (opened_issued entries bytes) c.issued_cert.ensures
    (λ d e. issued_takes entries bytes d (λ i. omega (arith, c.type_inv.bytes i)) e)

pub returns-clause-only : goal.returns-clause-only
returns-clause-only c = λ d is.
    gives_only NoMemory (λ cert. certificate cert.body) c.issued_cert.result (opened_issued c.args.table.now.entries c.args.bytes.now) d c.issued_cert.ensures
    (issued_again c.args.table.now.entries c.args.bytes.now d is)
