-- What is kept by the bytes is what they open to.
use Rattle.std.specs.Arc.{arc_value}
use Rattle.stmt_codec.specs.Certificates.{certificate}
use Rattle.sealed_cert.proofs.Apart.{one_body}
use Rattle.sealed_cert.proofs.Opened.{opened_again}
use Rattle.relay_core.proofs.opened.OpenedCerts.open.Goals as goal

pub returns-in-Some-clause-exact : goal.returns-in-Some-clause-exact
returns-in-Some-clause-exact c = opened_again c.args.self.now c.args.text.now (certificate (arc_value c.in-Some.cert).body) c.in-Some.ensures.opens

pub returns-in-Some-clause-only : goal.returns-in-Some-clause-only
returns-in-Some-clause-only c = λ d is. one_body 2 c.args.self.now c.args.self.now c.args.text.now (certificate (arc_value c.in-Some.cert).body) d c.in-Some.ensures.opens is
