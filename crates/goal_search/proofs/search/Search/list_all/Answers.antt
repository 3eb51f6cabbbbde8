use Rattle.goal_search.specs.Searching.{core}
use Rattle.goal_search.proofs.Growing.{filled_then}
use Rattle.goal_search.proofs.search.Search.list_all.Goals as goal

pub loop-number-preserved : goal.loop-number-preserved
loop-number-preserved c = filled_then (core c.args.self.now) (core c.loop-number.self) (core c.list.new.self) c.loop-number.invariant c.list.ensures
