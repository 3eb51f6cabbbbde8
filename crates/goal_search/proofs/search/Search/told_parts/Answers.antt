use Rattle.taos_calculus.specs.declared.line.Fact.{Fact}
use Rattle.goal_search.specs.Searching.{core}
use Rattle.goal_search.proofs.Told.{passed_kept}
use Rattle.goal_search.proofs.search.Search.told_parts.Goals as goal

pub returns-in-None-clause-told : goal.returns-in-None-clause-told
returns-in-None-clause-told c = λ p q. c.in-None.ensures (c.tell_same-2.ensures.more.kept (Fact.Speaks c.args.a c.args.c) (c.tell_same.ensures.told p))

pub returns-in-None-speaks_line-clause-told : goal.returns-in-None-speaks_line-clause-told
returns-in-None-speaks_line-clause-told c = λ p q.
    c.in-None-speaks_line.ensures
    (c.tell_same-2.ensures.told (passed_kept (core c.args.self.now) c.args.found.now c.tell_same.new.found c.tell_same.ensures.more c.args.b c.args.d q))
