use Rattle.goal_search.specs.Searching.{core}
use Rattle.goal_search.proofs.GapLaws.{delegated_is}
use Rattle.goal_search.proofs.search.Search.delegated_gap.Goals as goal

pub returns-in-Passed : goal.returns-in-Passed
returns-in-Passed c = λ k e.
    let (b, d) = c.requires.who_is in
    delegated_is (core c.args.self.now) c.requires.ready c.args.row c.args.number c.requires.row_in c.cite-it.result c.cite-it.ensures.stands c.requires.open c.args.who b d
    (c.in-Passed.ensures c.cite-it.result c.cite-it.ensures.stands)
