use Rattle.std.proofs.Common.{◌≤◌, length}
use Rattle.term_pool.specs.Extract.{IsKept}
use Rattle.term_pool.proofs.extract.extract.Given as goal

abbrev pub invariant-loop-k : goal.invariant-loop-k
invariant-loop-k l = record { kept : IsKept l.lines l.marks.items l.k l.numbers.items l.out.items; small : length l.out.items ≤ l.k }
