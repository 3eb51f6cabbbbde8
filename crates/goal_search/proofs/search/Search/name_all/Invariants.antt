use Rattle.goal_search.specs.Searching.{core, IsFilled}
use Rattle.goal_search.proofs.search.Search.name_all.Given as goal

abbrev pub invariant-loop-link : goal.invariant-loop-link
invariant-loop-link l = IsFilled (core l.fn.self) (core l.self)
