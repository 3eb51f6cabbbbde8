use Rattle.std.proofs.Common.{◌≡◌, ◌∙◌, ap}
use Rattle.term_pool.specs.Claims.{IsSaying}
use Rattle.term_pool.specs.declared.cited.Cited.{Cited}
use Rattle.term_pool.specs.Finding.{facts_in}
use Rattle.goal_search.specs.Searching.{core}
use Rattle.goal_search.proofs.Told.{gives_said, same_cited}
use Rattle.goal_search.proofs.search.Search.tell_made.Goals as goal

pub tell_says-requires-clause-gives : goal.tell_says-requires-clause-gives
tell_says-requires-clause-gives c = λ k e.
    let same : c.cite-it.result ≡ k = same_cited (core c.args.self.now) c.args.number c.cite-it.result k c.cite-it.ensures.stands e in
    let q : IsSaying c.cite-one.result c.args.who c.cite-it.result.left c.cite-it.result.right = c.is.ensures.0 c.if-is.true in
    gives_said (core c.args.self.now) (facts_in c.args.found.now) c.args.other c.cite-one.result k c.args.who c.cite-one.ensures.stands q.speaker_is
    (q.left_is ∙ ap (λ (x : Cited). x.left) same) (q.right_is ∙ ap (λ (x : Cited). x.right) same)
