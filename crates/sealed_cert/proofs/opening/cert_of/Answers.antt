use Rattle.stmt_codec.specs.Certificates.{certificate}
use Rattle.stmt_codec.proofs.Bodies.{text_between}
use Rattle.sealed_cert.proofs.opening.cert_of.Goals as goal

pub spelled_by-requires-clause-spelled : goal.spelled_by-requires-clause-spelled
spelled_by-requires-clause-spelled c = text_between c.args.bytes.now 1 c.args.end (certificate c.args.body) c.requires.spelled.0 c.requires.spelled.1
