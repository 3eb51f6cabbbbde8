use Rattle.std.proofs.Common.{length, sym, ap, ◌∙◌, inl, inr, arith}
use Rattle.std.proofs.lemmas.Result.{err_from_is_err_and}
use Rattle.prin_text.specs.Reading as reading
use Rattle.prin_text.specs.Tokens.{StopsAt}
use Rattle.prin_text.specs.View.{opened, piece, place}
use Rattle.prin_text.proofs.Stops.{stop_fails, stop_reads, token_fails, token_read}
use Rattle.prin_text.proofs.reading.part_at.Goals as goal
use Rattle.prin_text.proofs.reading.part_at.Goals.{then-loop-start-test+else-bytes-start-ne59, else-loop-start-test}

-- a token that is refused
pub returns-in_err-now-clause-value : goal.returns-in_err-now-clause-value
returns-in_err-now-clause-value c =
    let p = err_from_is_err_and c.from_residual.result c.from_residual.ensures.1 in
    rw (p.1, p.2) (elim c.in_err-now.ensures [
      | inl want ↦ inl want
      | inr read ↦ inr (sym c.loop-start.invariant.same ∙ token_fails c.args.names.now
          c.args.bytes.now c.loop-start.start c.token_end-end.result
          (opened c.loop-start.stack.items) (place c.loop-start.now) c.in_err-now.field-0.0
          c.token_end-end.ensures.longer c.token_end-end.ensures.within c.if-bytes-start-ne59.true
          c.token_end-end.ensures.token read)
    ])

-- one that is read
pub loop-start-preserved : goal.loop-start-preserved
loop-start-preserved c = record {
  within = c.skip_blanks-start-in-loop-start.ensures.within;
  begins = c.skip_blanks-start-in-loop-start.ensures.begins;
  same = ap (λ ts. reading.piece_at c.args.names.now (length c.args.bytes.now) ts (opened c.step.new.stack.items) (place c.in_ok-now.now)) c.skip_blanks-start-in-loop-start.ensures.tokens
      ∙ sym (token_read c.args.names.now c.args.bytes.now c.loop-start.start c.token_end-end.result
      (opened c.loop-start.stack.items) (place c.loop-start.now) (
        opened c.step.new.stack.items,
        place c.in_ok-now.now,
      ) c.token_end-end.ensures.longer c.token_end-end.ensures.within
      c.if-bytes-start-ne59.true c.token_end-end.ensures.token c.in_ok-now.ensures)
      ∙ c.loop-start.invariant.same;
}

-- where it ends before the principal does
pub returns-in_err-part-clause-value : goal.returns-in_err-part-clause-value
returns-in_err-part-clause-value c =
    let p = err_from_is_err_and c.from_residual-in_err-part.result c.from_residual-in_err-part.ensures.1 in
    let stops : StopsAt c.args.bytes.now c.loop-start.start = elim c.loop-start-test.branch [
      | then-loop-start-test+else-bytes-start-ne59 w ↦ inr (w.loop-start-test.true, w.if-bytes-start-ne59.false)
      | else-loop-start-test w ↦ inl (omega (arith, w.loop-start-test.false, c.loop-start.invariant.within))
    ] in
    let ended = c.in_err-part.ensures ∙ ap (λ s. reading.finished c.loop-start.start (opened s) (place c.loop-start.now)) c.deref.ensures.value in
    rw (p.1, p.2) (inr (sym c.loop-start.invariant.same ∙ stop_fails c.args.names.now c.args.bytes.now c.loop-start.start (opened c.loop-start.stack.items) (place c.loop-start.now) c.in_err-part.field-0.0 stops ended))

-- where it ends
pub returns-clause-value : goal.returns-clause-value
returns-clause-value c =
    let stops : StopsAt c.args.bytes.now c.loop-start.start = elim c.loop-start-test.branch [
      | then-loop-start-test+else-bytes-start-ne59 w ↦ inr (w.loop-start-test.true, w.if-bytes-start-ne59.false)
      | else-loop-start-test w ↦ inl (omega (arith, w.loop-start-test.false, c.loop-start.invariant.within))
    ] in
    let ended = c.in_ok-part.ensures ∙ ap (λ s. reading.finished c.loop-start.start (opened s) (place c.loop-start.now)) c.deref.ensures.value in
    sym c.loop-start.invariant.same ∙ stop_reads c.args.names.now c.args.bytes.now c.loop-start.start (opened c.loop-start.stack.items) (place c.loop-start.now) (piece c.in_ok-part.part) stops ended
