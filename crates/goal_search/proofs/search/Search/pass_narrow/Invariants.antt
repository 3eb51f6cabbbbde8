use Rattle.goal_search.specs.Searching.{core, IsFilled}
use Rattle.goal_search.proofs.search.Search.pass_narrow.Given as goal

abbrev pub invariant-loop : goal.invariant-loop
invariant-loop l = IsFilled (core l.fn.self) (core l.self)
