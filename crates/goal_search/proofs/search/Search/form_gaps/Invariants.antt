use Rattle.std.proofs.Common.{ℕ, ◌<◌}
use Rattle.goal_search.specs.Gaps.{IsFormed}
use Rattle.goal_search.specs.Searching.{core}
use Rattle.goal_search.proofs.search.Search.form_gaps.Given as goal

abbrev pub invariant-loop-number : goal.invariant-loop-number
invariant-loop-number l = (i : ℕ) → i < l.number → IsFormed (core l.self) l.row i
