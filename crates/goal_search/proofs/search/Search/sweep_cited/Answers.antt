use Rattle.goal_search.specs.Searching.{core}
use Rattle.goal_search.proofs.Growing.{filled_then}
use Rattle.goal_search.proofs.search.Search.sweep_cited.Goals as goal

pub returns-then-not-has : goal.returns-then-not-has
returns-then-not-has c =
    filled_then (core c.args.self.now) (core c.open_statement.new.self) (core c.close.new.self) c.open_statement.ensures
    (filled_then (core c.open_statement.new.self) (core c.hand_off.new.self) (core c.close.new.self) c.hand_off.ensures c.close.ensures)
