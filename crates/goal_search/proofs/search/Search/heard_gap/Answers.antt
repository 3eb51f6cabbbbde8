use Rattle.std.proofs.Common.{◌≡◌, inr, subst}
use Rattle.term_pool.specs.declared.cited.Cited.{Cited}
use Rattle.goal_search.specs.Gaps.{IsGap, RefusesIn}
use Rattle.goal_search.specs.Goals.{WhoSays}
use Rattle.goal_search.specs.Searching.{core}
use Rattle.goal_search.proofs.GapLaws.{for_none, unheard_none, unheard_some}
use Rattle.goal_search.proofs.Told.{same_cited}
use Rattle.goal_search.proofs.search.Search.heard_gap.Goals as goal

pub returns-in-Some-delegator : goal.returns-in-Some-delegator
returns-in-Some-delegator c =
    let (b, d) = c.in-Some-delegator.ensures.1 in
    for_none c.delegated_gap.result (IsGap (core c.args.self.now))
    (λ refused k e h.
    let same : c.cite-it.result ≡ k = same_cited (core c.args.self.now) c.args.number c.cite-it.result k c.cite-it.ensures.stands e in
    inr (unheard_some (core c.args.self.now) c.args.number k e (c.in_default.ensures k e) c.in-Some-delegator.who b d
    (subst (λ (x : Cited). RefusesIn (core c.args.self.now) (WhoSays x.left x.right) c.in-Some-delegator.who) same refused)))
    (c.delegated_gap.ensures c.cite-it.result c.cite-it.ensures.stands)

pub returns-in-None : goal.returns-in-None
returns-in-None c = λ k e h. inr (unheard_none (core c.args.self.now) c.args.number k e (c.in_default.ensures k e) c.in-None.ensures)
