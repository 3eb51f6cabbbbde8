use Rattle.goal_search.specs.Searching.{core}
use Rattle.goal_search.proofs.Growing.{filled_then}
use Rattle.goal_search.proofs.search.Search.fall.Goals as goal

pub returns-in-And : goal.returns-in-And
returns-in-And c = filled_then (core c.args.self.now) (core c.take_apart.new.self) (core c.take_apart-in-And.new.self) c.take_apart.ensures c.take_apart-in-And.ensures
