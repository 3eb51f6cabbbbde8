use Rattle.sealed_cert.proofs.Apart.{one_body}
use Rattle.sealed_cert.proofs.laws.one_body_opens.Goals as goal

pub returns : goal.returns
returns c = one_body
