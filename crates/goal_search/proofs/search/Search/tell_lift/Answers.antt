use Rattle.taos_calculus.specs.Numbered.{lift}
use Rattle.taos_calculus.specs.declared.line.Fact.{Fact}
use Rattle.goal_search.specs.Searching.{core}
use Rattle.goal_search.proofs.Told.{more_then}
use Rattle.goal_search.proofs.search.Search.tell_lift.Goals as goal

pub tell_says-requires-clause-gives : goal.tell_says-requires-clause-gives
tell_says-requires-clause-gives c = λ k e. lift (c.in-Some.ensures k e) c.in-Some-speaks_line.ensures

pub returns-in-Some-speaks_line-clause-more : goal.returns-in-Some-speaks_line-clause-more
returns-in-Some-speaks_line-clause-more c =
    more_then (core c.args.self.now) c.args.found.now c.tell_edge.new.found c.tell_says.new.found c.tell_edge.ensures.more c.tell_says.ensures.more

pub returns-in-None-clause-told : goal.returns-in-None-clause-told
returns-in-None-clause-told c = λ k e t g. absurd (c.in-None.ensures k e (c.tell_edge.ensures.more.kept (Fact.Says c.args.from k.left k.right) t))

pub returns-in-None-speaks_line-clause-told : goal.returns-in-None-speaks_line-clause-told
returns-in-None-speaks_line-clause-told c = λ k e t g. absurd (c.in-None-speaks_line.ensures (c.tell_edge.ensures.told g))
