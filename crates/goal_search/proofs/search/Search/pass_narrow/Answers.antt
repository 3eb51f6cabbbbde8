use Rattle.goal_search.specs.Searching.{core}
use Rattle.goal_search.proofs.Growing.{filled_then}
use Rattle.goal_search.proofs.search.Search.pass_narrow.Goals as goal

pub loop-preserved : goal.loop-preserved
loop-preserved c = filled_then (core c.args.self.now) (core c.loop.self) (core c.pass_by.new.self) c.loop.invariant c.pass_by.ensures
