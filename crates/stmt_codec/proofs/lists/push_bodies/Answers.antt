use Rattle.std.proofs.Common.{◌++◌, ◌∙◌, ap, arith, subst, Err}
use Rattle.std.proofs.lemmas.Result.{err_from_is_err_and}
use Rattle.byte_fields.specs.Appends.{Pushes}
use Rattle.byte_fields.proofs.Pieces.{one_more, not_all}
use Rattle.stmt_codec.specs.declared.cert.Cert.{Cert}
use Rattle.stmt_codec.specs.Certificates.{certificate}
use Rattle.stmt_codec.specs.Lists.{cert_bytes}
use Rattle.stmt_codec.specs.View.{certificate_of}
use Rattle.stmt_codec.proofs.lists.push_bodies.Goals as goal

pub returns-in_err-push_cert : goal.returns-in_err-push_cert
returns-in_err-push_cert c =
    let p = err_from_is_err_and c.from_residual.result c.from_residual.ensures.1 in
    let failed = subst (λ (k : Cert). Pushes {A = Unit {0}} c.loop-cert.out c.push_cert.new.out (cert_bytes (certificate k.body)) (Err c.in_err-push_cert.field-0.0)) c.deref.ensures c.in_err-push_cert.ensures in
    rw p.1 (not_all cert_bytes certificate_of c.args.certs.now c.loop-cert.cert-index c.cert-item.result c.args.out.now c.loop-cert.out c.push_cert.new.out _ _
    c.loop-cert-test.true c.cert-item.is c.loop-cert.invariant.written c.loop-cert.invariant.capacity failed)

pub loop-cert-preserved : goal.loop-cert-preserved
loop-cert-preserved c =
    let so_far = c.loop-cert.invariant.written in
    let appended = c.in_ok-push_cert.ensures.ok ∙ ap (λ (k : Cert). c.loop-cert.out.items ++ cert_bytes (certificate k.body)) c.deref.ensures in
    record {
      written = one_more cert_bytes certificate_of c.args.certs.now c.loop-cert.cert-index c.args.out.now.items c.loop-cert.out.items c.cert-item.result c.loop-cert-test.true c.cert-item.is so_far c.push_cert.new.out.items appended;
      capacity = omega (arith, c.loop-cert.invariant.capacity, c.in_ok-push_cert.ensures.capacity);
    }
