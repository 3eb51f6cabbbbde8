use Rattle.goal_search.specs.Searching.{core}
use Rattle.goal_search.proofs.Growing.{filled_then}
use Rattle.goal_search.proofs.search.Search.open_operands.Goals as goal

pub returns-in-Quote : goal.returns-in-Quote
returns-in-Quote c = filled_then (core c.args.self.now) (core c.open-in-Quote.new.self) (core c.open-in-Quote-2.new.self) c.open-in-Quote.ensures c.open-in-Quote-2.ensures
