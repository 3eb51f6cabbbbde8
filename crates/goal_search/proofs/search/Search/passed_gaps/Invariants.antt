use Rattle.std.proofs.Common.{ℕ, ◌<◌}
use Rattle.goal_search.specs.Gaps.{IsPassedOnIn}
use Rattle.goal_search.specs.Searching.{core}
use Rattle.goal_search.proofs.search.Search.passed_gaps.Given as goal

abbrev pub invariant-loop-from : goal.invariant-loop-from
invariant-loop-from l = (i : ℕ) → i < l.from → IsPassedOnIn (core l.self) l.row i l.to
