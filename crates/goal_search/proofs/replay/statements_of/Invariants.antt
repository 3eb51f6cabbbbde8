use Rattle.std.proofs.Common.{◌≡◌, take, map}
use Rattle.term_pool.specs.Finding.{statement_of}
use Rattle.goal_search.proofs.replay.statements_of.Given as goal

abbrev pub invariant-loop-i : goal.invariant-loop-i
invariant-loop-i l = l.statements.items ≡ map statement_of (take l.i l.cited)
