use Rattle.goal_search.specs.Searching.{core}
use Rattle.goal_search.proofs.Refusals.{never, saying_open}
use Rattle.goal_search.proofs.search.Search.saying_side.Goals as goal

pub returns : goal.returns
returns c = λ k e.
    saying_open (core c.args.self.now) c.requires.ready c.args.number c.args.who c.saying_row.result k e c.saying_row.ensures
    (λ p. never ((c.if-is_said.ensures k e).1 p)) (λ r. never ((c.if-refuses_saying.ensures k e).1 r))
