use Rattle.goal_search.specs.Searching.{core, IsGrown, left_to_do}
use Rattle.goal_search.proofs.search.Search.settle.Given as goal

abbrev pub invariant-loop-left : goal.invariant-loop-left
invariant-loop-left l = IsGrown (core l.fn.self) (core l.self)

-- each turn fills a cell or wants a row
abbrev pub decreases-loop-left : goal.decreases-loop-left
decreases-loop-left l = left_to_do (core l.self)
