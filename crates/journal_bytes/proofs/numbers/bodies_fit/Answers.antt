use Rattle.journal_bytes.proofs.Fitting.{certs_fit}
use Rattle.journal_bytes.proofs.numbers.bodies_fit.Goals as goal

pub returns : goal.returns
returns c = certs_fit c.args.certs.now
