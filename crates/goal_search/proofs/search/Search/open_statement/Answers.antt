use Rattle.goal_search.specs.Searching.{core}
use Rattle.goal_search.proofs.Growing.{filled_then}
use Rattle.goal_search.proofs.search.Search.open_statement.Goals as goal

pub returns-then-not-has : goal.returns-then-not-has
returns-then-not-has c =
    filled_then (core c.args.self.now) (core c.open.new.self) (core c.close.new.self) c.open.ensures
    (filled_then (core c.open.new.self) (core c.begin_statement.new.self) (core c.close.new.self) c.begin_statement.ensures.filled c.close.ensures)
