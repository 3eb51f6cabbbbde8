use Rattle.std.proofs.Common.{◌∙◌, inl, inr}
use Rattle.std.proofs.lemmas.Result.{err_from_is_err_and}
use Rattle.prin_term.proofs.Levels.{front_term-is}
use Rattle.prin_term.proofs.reading.+term.Goals as goal

pub operand_of-returns-in_err-term-clause-value : goal.operand_of-returns-in_err-term-clause-value
operand_of-returns-in_err-term-clause-value t c =
    let p = err_from_is_err_and c.from_residual.result c.from_residual.ensures.1 in
    rw (p.1, p.2) (elim c.in_err-term.ensures.value [
      | inl want ↦ inl want
      | inr read ↦ inr (front_term-is c.args.end c.args.depth c.args.nodes c.args.bytes.now ∙ read)
    ])

pub operand_of-returns-clause-value : goal.operand_of-returns-clause-value
operand_of-returns-clause-value t c =
    rw c.in_ok-new.ensures.ok (front_term-is c.args.end c.args.depth c.args.nodes c.args.bytes.now ∙ c.in_ok-term.ensures.value)
