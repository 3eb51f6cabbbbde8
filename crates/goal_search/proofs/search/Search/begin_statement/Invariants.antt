use Rattle.goal_search.specs.Searching.{core, IsFilled}
use Rattle.goal_search.proofs.Beginning.{SpeakersTo}
use Rattle.goal_search.proofs.search.Search.begin_statement.Given as goal

abbrev pub invariant-loop-other : goal.invariant-loop-other
invariant-loop-other l = record {
  filled : IsFilled (core l.fn.self) (core l.self);
  there : SpeakersTo (core l.fn.self) (core l.self) l.number l.other;
}
