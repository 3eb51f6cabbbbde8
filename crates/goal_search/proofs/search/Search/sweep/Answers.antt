use Rattle.goal_search.specs.Searching.{core}
use Rattle.goal_search.proofs.Growing.{filled_then}
use Rattle.goal_search.proofs.search.Search.sweep.Goals as goal

pub returns : goal.returns
returns c =
    filled_then (core c.args.self.now) (core c.sweep_back.new.self) (core c.sweep_compounds.new.self) c.sweep_back.ensures
    (filled_then (core c.sweep_back.new.self) (core c.sweep_forth.new.self) (core c.sweep_compounds.new.self) c.sweep_forth.ensures
    (filled_then (core c.sweep_forth.new.self) (core c.open_all.new.self) (core c.sweep_compounds.new.self) c.open_all.ensures c.sweep_compounds.ensures))
