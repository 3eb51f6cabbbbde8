use Rattle.std.proofs.Common.{◌+◌, ◌≤◌}
use Rattle.term_pool.specs.Extract.{IsMarkedFrom}
use Rattle.term_pool.proofs.extract.marks_for.Given as goal

abbrev pub invariant-loop-k : goal.invariant-loop-k
invariant-loop-k l = record { marked : IsMarkedFrom l.lines l.last l.k l.marks.items; k_in : l.k ≤ l.last + 1 }

abbrev pub decreases-loop-k : goal.decreases-loop-k
decreases-loop-k l = l.k
