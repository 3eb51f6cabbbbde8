use Rattle.goal_search.specs.Searching.{core}
use Rattle.goal_search.proofs.EdgeLaws.{heard_by_right, heard_by_delegator}
use Rattle.goal_search.proofs.search.Search.is_heard.Goals as goal

pub returns-then-is_said : goal.returns-then-is_said
returns-then-is_said c = λ t k e.
    heard_by_right (core c.args.self.now) c.args.number c.cite-it.result k c.cite-it.ensures.stands e ((c.is_said.ensures c.cite-it.result c.cite-it.ensures.stands).0 c.if-is_said.true)

pub returns-in-Some : goal.returns-in-Some
returns-in-Some c = λ t k e.
    let (b, d) = c.in-Some.ensures.1 in
    heard_by_delegator (core c.args.self.now) c.args.number c.in-Some.a b c.cite-it.result k c.cite-it.ensures.stands e d
    ((c.is_said-in-Some.ensures c.cite-it.result c.cite-it.ensures.stands).0 t)
