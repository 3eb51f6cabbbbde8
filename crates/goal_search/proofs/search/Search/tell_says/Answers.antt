use Rattle.std.proofs.Common.{sym, subst}
use Rattle.taos_calculus.specs.Numbered.{Gives}
use Rattle.taos_calculus.specs.declared.line.Fact.{Fact}
use Rattle.term_pool.specs.Finding.{facts_in}
use Rattle.goal_search.specs.Searching.{core, about, claims_in}
use Rattle.goal_search.proofs.search.Search.tell_says.Goals as goal

pub tell-requires-clause-gives : goal.tell-requires-clause-gives
tell-requires-clause-gives c =
    let (k, e, q) = c.saying.ensures.stands in
    subst
    (λ (f : Fact). Gives c.args.self.now.nodes.items c.args.self.now.anchors.items (claims_in (about (core c.args.self.now))) (facts_in c.args.found.now) f c.args.step)
    (sym q) (c.requires.gives k e)
