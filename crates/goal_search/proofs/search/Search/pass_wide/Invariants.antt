use Rattle.goal_search.specs.Searching.{core, IsFilled}
use Rattle.goal_search.proofs.search.Search.pass_wide.Given as goal

abbrev pub invariant-loop-place : goal.invariant-loop-place
invariant-loop-place l = IsFilled (core l.fn.self) (core l.self)
