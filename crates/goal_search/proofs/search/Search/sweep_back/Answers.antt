use Rattle.goal_search.specs.Searching.{core}
use Rattle.goal_search.proofs.Growing.{filled_then}
use Rattle.goal_search.proofs.search.Search.sweep_back.Goals as goal

pub loop-step-preserved : goal.loop-step-preserved
loop-step-preserved c = filled_then (core c.args.self.now) (core c.loop-step.self) (core c.sweep_cited.new.self) c.loop-step.invariant c.sweep_cited.ensures
