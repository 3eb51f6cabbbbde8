use Rattle.goal_search.specs.Searching.{core}
use Rattle.goal_search.proofs.Growing.{filled_then}
use Rattle.goal_search.proofs.Wanting.{filled_less}
use Rattle.goal_search.proofs.search.Search.mend.Goals as goal

pub returns-in-Number-clause-grown : goal.returns-in-Number-clause-grown
returns-in-Number-clause-grown c = (filled_then (core c.args.self.now) (core c.add.new.self) (core c.close.new.self) c.add.ensures.filled c.close.ensures).grown

pub returns-in-Number-clause-less : goal.returns-in-Number-clause-less
returns-in-Number-clause-less c = filled_less (core c.args.self.now) (core c.add.new.self) (core c.close.new.self) c.requires.ready c.add.ensures.filled c.close.ensures c.add.ensures.less

pub add-requires-clause-reason : goal.add-requires-clause-reason
add-requires-clause-reason c = (rw c.in-Number.is at c.requires.gap).3
