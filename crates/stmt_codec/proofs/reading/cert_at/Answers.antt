use Rattle.stmt_codec.specs.Certificates.{certificate}
use Rattle.stmt_codec.proofs.Bodies.{text_between}
use Rattle.stmt_codec.proofs.reading.cert_at.Goals as goal

pub spelled_by-requires-clause-spelled : goal.spelled_by-requires-clause-spelled
spelled_by-requires-clause-spelled c =
    text_between c.args.bytes.now c.args.at c.in_ok-body.end (certificate c.in_ok-body.body) c.in_ok-body.ensures.found.0 c.in_ok-body.ensures.found.1
