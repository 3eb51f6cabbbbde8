use Rattle.taos_calculus.specs.Numbered.{chain}
use Rattle.taos_calculus.specs.declared.line.Fact.{Fact}
use Rattle.goal_search.specs.Searching.{core}
use Rattle.goal_search.proofs.Told.{more_then}
use Rattle.goal_search.proofs.search.Search.tell_chain.Goals as goal

pub tell_speaks-requires-clause-gives : goal.tell_speaks-requires-clause-gives
tell_speaks-requires-clause-gives c = chain c.in-Some.ensures c.in-Some-speaks_line.ensures

pub returns-in-Some-speaks_line-clause-more : goal.returns-in-Some-speaks_line-clause-more
returns-in-Some-speaks_line-clause-more c =
    more_then (core c.args.self.now) c.args.found.now c.tell_edge.new.found c.tell_speaks.new.found c.tell_edge.ensures.more c.tell_speaks.ensures.more

pub returns-in-None-clause-told : goal.returns-in-None-clause-told
returns-in-None-clause-told c = λ t e. absurd (c.in-None.ensures (c.tell_edge.ensures.more.kept (Fact.Speaks c.args.row c.args.from) t))

pub returns-in-None-speaks_line-clause-told : goal.returns-in-None-speaks_line-clause-told
returns-in-None-speaks_line-clause-told c = λ t e. absurd (c.in-None-speaks_line.ensures (c.tell_edge.ensures.told e))
