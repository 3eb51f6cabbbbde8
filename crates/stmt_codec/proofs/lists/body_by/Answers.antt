-- A body with the bytes of one that is kept is that one; what is kept has the bytes that it was read of.
use Rattle.std.proofs.Common.{◌≡◌, sym, ap, subst, ◌∙◌, arith}
use Rattle.std.specs.Prelude.{IfSome}
use Rattle.byte_fields.specs.Steps.{bytes_at}
use Rattle.byte_fields.specs.declared.fault.FormatFault.{FormatFault as BodyFault}
use Rattle.stmt_codec.specs.declared.cert.Cert.{Cert}
use Rattle.stmt_codec.specs.Certificates.{body_spelling, certificate}
use Rattle.stmt_codec.specs.View.{certificate_of}
use Rattle.stmt_codec.proofs.BodySpellings.{body_known, body_spells}
use Rattle.stmt_codec.proofs.lists.body_by.Goals as goal

pub returns-in-Some-clause-value : goal.returns-in-Some-clause-value
returns-in-Some-clause-value c =
    let cert = c.in-Some.cert in
    body_known c.args.bytes.now c.args.at c.args.len c.requires (c.in_ok-text.text.now, c.in_ok-text.end)
    (ap (λ (f : BodyFault). bytes_at f c.args.len c.args.bytes.now c.args.at) (sym c.ended.ensures) ∙ sym c.in_ok-text.ensures.value)
    (certificate_of cert) (subst (λ o. IfSome o (λ handle. c.in_ok-text.text.now ≡ body_spelling (certificate_of handle))) c.in-Some.is c.in_ok-cert.ensures)
    (record { numbers = cert.value.numbers; limits = cert.value.limits })

pub keep-requires : goal.keep-requires
keep-requires c =
    subst (λ (k : Cert). c.in_ok-text.text.now ≡ body_spelling (certificate k.body)) (sym c.in_ok-cert-3.ensures.ok)
    (body_spells c.args.bytes.now c.args.at c.args.len c.requires (c.in_ok-text.text.now, c.in_ok-text.end)
    (ap (λ (f : BodyFault). bytes_at f c.args.len c.args.bytes.now c.args.at) (sym c.ended.ensures) ∙ sym c.in_ok-text.ensures.value)
    (λ i. omega (arith, c.type_inv.bytes i)) (certificate c.in_ok-cert-2.cert.body) c.in_ok-cert-2.end c.in_ok-cert-2.ensures.value)
