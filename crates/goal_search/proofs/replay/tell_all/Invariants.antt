use Rattle.std.proofs.Common.{◌+◌}
use Rattle.goal_search.specs.Searching.{core}
use Rattle.goal_search.specs.Telling.{IsTelling, TellsBefore}
use Rattle.goal_search.proofs.replay.tell_all.Given as goal

abbrev pub invariant-loop-k : goal.invariant-loop-k
invariant-loop-k l = record {
  telling : IsTelling (core l.search) l.found;
  told : TellsBefore (core l.search) (l.k + 1) l.found;
}
