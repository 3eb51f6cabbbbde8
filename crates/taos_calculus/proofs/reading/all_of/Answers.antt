use Rattle.std.proofs.Common.{inl, inr, refl, sym, ◌∙◌, ap, Ok, arith}
use Rattle.std.proofs.lemmas.Bool.{false≢true}
use Rattle.std.proofs.lemmas.Result.{err_from_is_err_and}
use Rattle.taos_calculus.specs.Tables.{parts_of}
use Rattle.taos_calculus.proofs.ProofLaws.{parts_refused, not_canonical, bytes_left, all_read}
use Rattle.taos_calculus.proofs.reading.all_of.Goals as goal

pub returns-in_err-nodes : goal.returns-in_err-nodes
returns-in_err-nodes c =
    let p = err_from_is_err_and c.from_residual.result c.from_residual.ensures.1 in
    rw (p.1, p.2) (elim c.in_err-nodes.ensures [
      | inl want ↦ inl want
      | inr read ↦ inr (parts_refused c.args.bytes.now c.args.at c.in_err-nodes.field-0.0 read)
    ])

pub returns-in_default : goal.returns-in_default
returns-in_default c =
    inr (not_canonical c.args.bytes.now c.args.at (λ i. omega (arith, c.type_inv.bytes i)) c.requires (parts_of c.in_ok-nodes.nodes.items c.in_ok-nodes.lines.items) c.in_ok-nodes.end c.in_ok-nodes.ensures (λ is. absurd (false≢true (c.in_default.ensures.made.1 is))))

pub returns-then-end-bytes : goal.returns-then-end-bytes
returns-then-end-bytes c =
    inr (bytes_left c.args.bytes.now c.args.at (λ i. omega (arith, c.type_inv.bytes i)) c.requires (parts_of c.in_ok-nodes.nodes.items c.in_ok-nodes.lines.items) c.in_ok-nodes.end c.in_ok-nodes.ensures (c.in-Some.ensures.made.0 refl) c.if-end-bytes.true)

pub returns-else-end-bytes : goal.returns-else-end-bytes
returns-else-end-bytes c =
    all_read c.args.bytes.now c.args.at (λ i. omega (arith, c.type_inv.bytes i)) c.requires (parts_of c.in_ok-nodes.nodes.items c.in_ok-nodes.lines.items) c.in_ok-nodes.end c.in_ok-nodes.ensures (c.in-Some.ensures.made.0 refl) c.if-end-bytes.false ∙ ap Ok (sym c.in-Some.ensures.parts)
