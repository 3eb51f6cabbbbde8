use Rattle.std.proofs.Common.{ℕ, ◌<◌}
use Rattle.goal_search.specs.Gaps.{IsPassedOnIn}
use Rattle.goal_search.specs.Searching.{core}
use Rattle.goal_search.proofs.search.Search.given_gaps.Given as goal

abbrev pub invariant-loop-to : goal.invariant-loop-to
invariant-loop-to l = (i : ℕ) → i < l.to → IsPassedOnIn (core l.self) l.row l.from i
