use Rattle.std.proofs.Common.{ℕ, ◌<◌}
use Rattle.goal_search.specs.Gaps.{IsHandedIn}
use Rattle.goal_search.specs.Searching.{core}
use Rattle.goal_search.proofs.search.Search.heard_gaps.Given as goal

abbrev pub invariant-loop-number : goal.invariant-loop-number
invariant-loop-number l = (i : ℕ) → i < l.number → IsHandedIn (core l.self) l.row i
