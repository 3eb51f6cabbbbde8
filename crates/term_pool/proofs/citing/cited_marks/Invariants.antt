use Rattle.term_pool.proofs.Cites.{MarksFirst}
use Rattle.term_pool.proofs.citing.cited_marks.Given as goal

abbrev pub invariant-loop-i : goal.invariant-loop-i
invariant-loop-i l = MarksFirst l.lines l.count l.i l.marks.items
