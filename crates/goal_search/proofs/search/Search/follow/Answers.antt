use Rattle.goal_search.specs.Searching.{core}
use Rattle.goal_search.proofs.Growing.{filled_then}
use Rattle.goal_search.proofs.search.Search.follow.Goals as goal

pub returns-then-number-len : goal.returns-then-number-len
returns-then-number-len c = filled_then (core c.args.self.now) (core c.fall.new.self) (core c.rise.new.self) c.fall.ensures c.rise.ensures
