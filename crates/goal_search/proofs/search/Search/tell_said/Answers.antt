use Rattle.std.proofs.Common.{◌≡◌, refl, sym, ap, subst}
use Rattle.taos_calculus.specs.Numbered.{lift}
use Rattle.taos_calculus.specs.declared.line.Fact.{Fact}
use Rattle.term_pool.specs.declared.cited.Cited.{Cited}
use Rattle.term_pool.specs.Finding.{facts_in}
use Rattle.goal_search.specs.Searching.{core}
use Rattle.goal_search.specs.Telling.{IsTold}
use Rattle.goal_search.proofs.Told.{gives_said, same_cited, said_told}
use Rattle.goal_search.proofs.search.Search.tell_said.Goals as goal

pub tell_says-requires-clause-gives : goal.tell_says-requires-clause-gives
tell_says-requires-clause-gives c = λ k e.
    let same : c.cite-it.result ≡ k = same_cited (core c.args.self.now) c.args.number c.cite-it.result k c.cite-it.ensures.stands e in
    gives_said (core c.args.self.now) (facts_in c.args.found.now) c.args.number c.cite-it.result k c.cite-it.result.speaker c.cite-it.ensures.stands refl
    (ap (λ (x : Cited). x.left) same) (ap (λ (x : Cited). x.right) same)

pub tell_says-requires-in-Some-speaks_line-clause-gives : goal.tell_says-requires-in-Some-speaks_line-clause-gives
tell_says-requires-in-Some-speaks_line-clause-gives c = λ k e. lift (c.in-Some.ensures k e) c.in-Some-speaks_line.ensures

-- its speaker does not speak for it, so the lines told it before
pub returns-in-None-speaks_line-clause-told : goal.returns-in-None-speaks_line-clause-told
returns-in-None-speaks_line-clause-told c = λ k e t.
    let same : c.cite-it.result ≡ k = same_cited (core c.args.self.now) c.args.number c.cite-it.result k c.cite-it.ensures.stands e in
    said_told (core c.args.self.now) c.requires.ready c.args.found.now c.tell_says.new.found c.tell_says.ensures.more c.args.number c.args.who k e t
    (λ z. absurd (c.in-None-speaks_line.ensures (subst (λ (x : Cited). IsTold c.tell_says.new.found (Fact.Speaks x.speaker c.args.who)) (sym same) z)))
