use Rattle.std.proofs.Common.{◌≡◌, ℕ, sym, ap, subst}
use Rattle.taos_calculus.specs.Numbered.{hand_off}
use Rattle.term_pool.specs.declared.cited.Cited.{Cited}
use Rattle.goal_search.specs.Searching.{core}
use Rattle.goal_search.specs.Telling.{TellsSaid}
use Rattle.goal_search.proofs.Told.{same_cited}
use Rattle.goal_search.proofs.search.Search.tell_handed.Goals as goal

pub tell_speaks-requires-clause-gives : goal.tell_speaks-requires-clause-gives
tell_speaks-requires-clause-gives c = hand_off (c.in-Some.ensures c.cite-it.result c.cite-it.ensures.stands)

pub returns-in-None-clause-told : goal.returns-in-None-clause-told
returns-in-None-clause-told c = λ k e t.
    let same : c.cite-it.result ≡ k = same_cited (core c.args.self.now) c.args.number c.cite-it.result k c.cite-it.ensures.stands e in
    absurd (c.in-None.ensures k e (c.tell_said.ensures.told k e
    (subst (λ (x : ℕ). TellsSaid (core c.args.self.now) c.args.found.now c.args.number k x) (ap (λ (x : Cited). x.right) (sym same)) t)))
