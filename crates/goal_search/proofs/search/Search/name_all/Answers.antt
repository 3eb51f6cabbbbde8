use Rattle.goal_search.specs.Searching.{core}
use Rattle.goal_search.proofs.Growing.{filled_then}
use Rattle.goal_search.proofs.search.Search.name_all.Goals as goal

pub loop-link-preserved : goal.loop-link-preserved
loop-link-preserved c = filled_then (core c.args.self.now) (core c.loop-link.self) (core c.name.new.self) c.loop-link.invariant c.name.ensures
