-- The body is read in the bytes up to its end.
use Rattle.std.proofs.Common.{sym, ap, ◌∙◌, inl, inr, arith}
use Rattle.std.proofs.lemmas.Result.{err_from_is_err_and}
use Rattle.byte_fields.specs.Steps.{bytes_at}
use Rattle.stmt_codec.specs.Certificates.{certificate}
use Rattle.byte_fields.specs.declared.fault.FormatFault.{FormatFault as BodyFault}
use Rattle.stmt_codec.proofs.Fillings.{front_within, body_refused, body_left, body_read}
use Rattle.stmt_codec.proofs.lists.body_of.Goals as goal

pub read_body-requires : goal.read_body-requires
read_body-requires c =
    front_within c.args.bytes.now c.args.at c.args.len c.requires (c.in_ok-end.field-0-0.now, c.in_ok-end.end)
    (ap (λ (f : BodyFault). bytes_at f c.args.len c.args.bytes.now c.args.at) (sym c.ended.ensures) ∙ sym c.in_ok-end.ensures.value)

pub returns-in_err-cert-clause-value : goal.returns-in_err-cert-clause-value
returns-in_err-cert-clause-value c =
    let p = err_from_is_err_and c.from_residual-in_err-cert.result c.from_residual-in_err-cert.ensures.1 in
    rw (p.1, p.2) (elim c.in_err-cert.ensures.exact [
      | inl want ↦ inl want
      | inr read ↦ inr (body_refused c.args.bytes.now c.args.at c.args.len c.requires (c.in_ok-end.field-0-0.now, c.in_ok-end.end)
          (ap (λ (f : BodyFault). bytes_at f c.args.len c.args.bytes.now c.args.at) (sym c.ended.ensures) ∙ sym c.in_ok-end.ensures.value) c.in_err-cert.field-0.0 read)
    ])

pub returns-then-next-end-clause-value : goal.returns-then-next-end-clause-value
returns-then-next-end-clause-value c =
    inr (body_left c.args.bytes.now c.args.at c.args.len c.requires (c.in_ok-end.field-0-0.now, c.in_ok-end.end)
    (ap (λ (f : BodyFault). bytes_at f c.args.len c.args.bytes.now c.args.at) (sym c.ended.ensures) ∙ sym c.in_ok-end.ensures.value)
    (certificate c.in_ok-cert.cert.body) c.in_ok-cert.next c.in_ok-cert.ensures.exact c.if-next-end.true)

pub returns-else-next-end-clause-value : goal.returns-else-next-end-clause-value
returns-else-next-end-clause-value c =
    body_read c.args.bytes.now c.args.at c.args.len c.requires (c.in_ok-end.field-0-0.now, c.in_ok-end.end)
    (ap (λ (f : BodyFault). bytes_at f c.args.len c.args.bytes.now c.args.at) (sym c.ended.ensures) ∙ sym c.in_ok-end.ensures.value)
    (certificate c.in_ok-cert.cert.body) c.in_ok-cert.next c.in_ok-cert.ensures.exact (omega (arith, c.if-next-end.false))
