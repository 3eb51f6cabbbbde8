use Rattle.std.proofs.Common.{ℕ, subst}
use Rattle.taos_calculus.specs.Numbered.{Gives, same}
use Rattle.taos_calculus.specs.declared.line.Fact.{Fact}
use Rattle.taos_calculus.specs.declared.line.Step.{Step}
use Rattle.term_pool.specs.Finding.{facts_in}
use Rattle.goal_search.specs.Searching.{core, about, claims_in}
use Rattle.goal_search.proofs.search.Search.tell_same.Goals as goal

pub tell_speaks-requires-clause-gives : goal.tell_speaks-requires-clause-gives
tell_speaks-requires-clause-gives c =
    subst
    (λ (r : ℕ). Gives c.args.self.now.nodes.items c.args.self.now.anchors.items (claims_in (about (core c.args.self.now))) (facts_in c.args.found.now) (Fact.Speaks c.args.left r) Step.Same)
    c.if-left-right.true same
