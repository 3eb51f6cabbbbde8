use Rattle.taos_calculus.specs.Numbered.{join}
use Rattle.goal_search.proofs.search.Search.tell_join.Goals as goal

pub tell_says-requires-clause-gives : goal.tell_says-requires-clause-gives
tell_says-requires-clause-gives c = λ k e. join c.in-And.ensures.stands (c.in-Some.ensures k e) (c.in-Some-says_line.ensures k e)
