use Rattle.goal_search.specs.Searching.{core, IsFilled}
use Rattle.goal_search.proofs.search.Search.sweep_back.Given as goal

abbrev pub invariant-loop-step : goal.invariant-loop-step
invariant-loop-step l = IsFilled (core l.fn.self) (core l.self)
