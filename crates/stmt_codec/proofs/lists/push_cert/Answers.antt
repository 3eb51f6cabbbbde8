-- A body is short.
use Rattle.std.proofs.Common.{arith, ap, length, length-append, ◌∙◌}
use Rattle.stmt_codec.specs.Certificates.{body_spelling, certificate}
use Rattle.stmt_codec.proofs.BodyLengths.{short_body}
use Rattle.stmt_codec.proofs.lists.push_cert.Goals as goal

pub overflow_cast-len : goal.overflow_cast-len
overflow_cast-len c =
    let len = ap length c.in_ok-write_body.ensures.appends.ok ∙ length-append c.extend_from_slice.new.self.items (body_spelling (certificate c.args.cert.now.body)) in
    omega (arith, len, short_body (certificate c.args.cert.now.body) c.args.cert.now.limits)
