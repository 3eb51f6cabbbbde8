use Rattle.goal_search.specs.Searching.{core, IsFilled}
use Rattle.goal_search.proofs.search.Search.list_all.Given as goal

abbrev pub invariant-loop-number : goal.invariant-loop-number
invariant-loop-number l = IsFilled (core l.fn.self) (core l.self)
