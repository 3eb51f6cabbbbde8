use Rattle.std.proofs.Common.{refl}
use Rattle.goal_search.specs.Telling.{saying}
use Rattle.goal_search.proofs.search.Search.saying.Goals as goal

pub returns-clause-stands : goal.returns-clause-stands
returns-clause-stands c = (c.cite-it.result, c.cite-it.ensures.stands, refl)

pub returns-clause-fact_in : goal.returns-clause-fact_in
returns-clause-fact_in c = saying c.args.number c.requires.who_in c.cite-it.ensures.stands refl
