use Rattle.goal_search.specs.Searching.{core}
use Rattle.goal_search.proofs.Told.{fact_below}
use Rattle.goal_search.proofs.search.Search.says_line.Goals as goal

pub number-requires-clause-below : goal.number-requires-clause-below
number-requires-clause-below c =
    fact_below (core c.args.self.now) c.requires.ready c.args.found.now c.saying.result c.requires.telling c.saying.ensures.fact_in
