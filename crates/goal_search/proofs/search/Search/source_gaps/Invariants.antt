use Rattle.std.proofs.Common.{ℕ, ◌<◌}
use Rattle.goal_search.specs.Gaps.{IsPassedOnIn}
use Rattle.goal_search.specs.Searching.{core, IsNumber}
use Rattle.goal_search.proofs.search.Search.source_gaps.Given as goal

abbrev pub invariant-loop-from : goal.invariant-loop-from
invariant-loop-from l = (i : ℕ) → i < l.from → (to : ℕ) → IsNumber (core l.self) to → IsPassedOnIn (core l.self) l.row i to
