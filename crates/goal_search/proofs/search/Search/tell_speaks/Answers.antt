use Rattle.goal_search.specs.Telling.{speaking}
use Rattle.goal_search.proofs.search.Search.tell_speaks.Goals as goal

pub tell-requires-clause-fact_in : goal.tell-requires-clause-fact_in
tell-requires-clause-fact_in c = speaking c.requires.left_in c.requires.right_in c.speaking.ensures
