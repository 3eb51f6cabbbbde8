use Rattle.term_pool.specs.Citing.{UsedBelow}
use Rattle.term_pool.proofs.citing.cites_in.Given as goal

abbrev pub invariant-loop-number : goal.invariant-loop-number
invariant-loop-number l = UsedBelow l.lines l.number l.used.items
