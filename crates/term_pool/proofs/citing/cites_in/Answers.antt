-- a number that is marked is cited by some line, and one that is not by none
use Rattle.std.proofs.Common.{◌≡◌, ◌<◌, length, true, false, sym, ◌∙◌, arith}
use Rattle.std.proofs.lemmas.List.{get_or_default}
use Rattle.term_pool.proofs.Recited.{used_more, used_skip}
use Rattle.term_pool.proofs.citing.cites_in.Goals as goal
use Rattle.term_pool.proofs.citing.cites_in.Goals.{then-index+in_ok-push, else-index}

pub loop-number-preserved : goal.loop-number-preserved
loop-number-preserved c =
    let lines = c.args.lines.now in
    let number = c.loop-number.number in
    let marks = c.in_ok-marks.marks.items in
    let in_marks : number < length marks = omega (arith, c.in_ok-marks.ensures.long) in
    let read = get_or_default marks number false c.index.result.now in_marks in
    elim c.if-index.branch [
      | then-index+in_ok-push w ↦
          rw (w.used-is, w.in_ok-push.ensures.items)
          (used_more lines number c.loop-number.used.items c.loop-number.invariant
          (c.in_ok-marks.ensures.only number (read ∙ (sym c.index.ensures ∙ w.if-index.true))))
      | else-index w ↦
          rw w.used-is
          (used_skip lines number c.loop-number.used.items c.loop-number.invariant
          (λ h. let e : true ≡ false = sym (c.in_ok-marks.ensures.marked number (omega arith) h) ∙ (read ∙ (sym c.index.ensures ∙ w.if-index.false)) in cc))
    ]
