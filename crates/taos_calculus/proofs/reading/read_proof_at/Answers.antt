use Rattle.std.proofs.Common.{sym, ap, ◌∙◌, inl, inr}
use Rattle.std.proofs.lemmas.Result.{err_from_is_err_and}
use Rattle.byte_fields.specs.Steps.{bytes_at}
use Rattle.byte_fields.specs.declared.fault.FormatFault.{FormatFault as ProofFault}
use Rattle.taos_calculus.proofs.ProofLaws.{front_within, filled_read, filled_refused}
use Rattle.taos_calculus.proofs.reading.read_proof_at.Goals as goal

pub all_of-requires : goal.all_of-requires
all_of-requires c =
    front_within c.args.bytes.now c.args.at c.args.len c.requires (c.in_ok-end.field-0-0.now, c.in_ok-end.end)
    (ap (λ (f : ProofFault). bytes_at f c.args.len c.args.bytes.now c.args.at) (sym c.ended.ensures) ∙ sym c.in_ok-end.ensures.value)

pub returns-in_err-proof-clause-exact : goal.returns-in_err-proof-clause-exact
returns-in_err-proof-clause-exact c =
    let p = err_from_is_err_and c.from_residual-in_err-proof.result c.from_residual-in_err-proof.ensures.1 in
    rw (p.1, p.2) (elim c.in_err-proof.ensures [
      | inl want ↦ inl want
      | inr read ↦ inr (filled_refused c.args.bytes.now c.args.at c.args.len c.requires (c.in_ok-end.field-0-0.now, c.in_ok-end.end)
          (ap (λ (f : ProofFault). bytes_at f c.args.len c.args.bytes.now c.args.at) (sym c.ended.ensures) ∙ sym c.in_ok-end.ensures.value) c.in_err-proof.field-0.0 read)
    ])

pub returns-clause-exact : goal.returns-clause-exact
returns-clause-exact c =
    filled_read c.args.bytes.now c.args.at c.args.len c.requires (c.in_ok-end.field-0-0.now, c.in_ok-end.end)
    (ap (λ (f : ProofFault). bytes_at f c.args.len c.args.bytes.now c.args.at) (sym c.ended.ensures) ∙ sym c.in_ok-end.ensures.value) c.in_ok-proof.proof c.in_ok-proof.ensures
