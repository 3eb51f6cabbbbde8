use Rattle.std.proofs.Common.{ℕ, ◌<◌}
use Rattle.goal_search.specs.Searching.{core}
use Rattle.goal_search.specs.Telling.{TellsMore, TellsHeard}
use Rattle.goal_search.proofs.search.Search.tell_heard.Given as goal

-- what the certificates so far give is told
abbrev pub invariant-loop-number : goal.invariant-loop-number
invariant-loop-number l = record {
  more : TellsMore (core l.self) l.fn.found l.found;
  told : (i : ℕ) → i < l.number → TellsHeard (core l.self) l.fn.found l.found l.from l.to i;
}
