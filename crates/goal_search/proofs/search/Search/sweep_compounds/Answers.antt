use Rattle.goal_search.specs.Searching.{core}
use Rattle.goal_search.proofs.Growing.{filled_then}
use Rattle.goal_search.proofs.search.Search.sweep_compounds.Goals as goal

pub loop-place-preserved : goal.loop-place-preserved
loop-place-preserved c = filled_then (core c.args.self.now) (core c.loop-place.self) (core c.pass_from.new.self) c.loop-place.invariant c.pass_from.ensures
