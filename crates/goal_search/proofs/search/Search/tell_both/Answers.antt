use Rattle.taos_calculus.specs.Numbered.{both}
use Rattle.goal_search.proofs.search.Search.tell_both.Goals as goal

pub tell_speaks-requires-clause-gives : goal.tell_speaks-requires-clause-gives
tell_speaks-requires-clause-gives c = both c.in-And.ensures.stands c.in-Some.ensures c.in-Some-speaks_line.ensures
