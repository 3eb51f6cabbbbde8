use Rattle.goal_search.specs.Searching.{core}
use Rattle.goal_search.proofs.Refusals.{never, side_open}
use Rattle.goal_search.proofs.search.Search.side.Goals as goal

pub returns : goal.returns
returns c =
    side_open (core c.args.self.now) c.requires.ready c.args.left c.args.right c.requires.left_in (λ p. never (c.if-passes.ensures.1 p)) (λ r. never (c.if-refuses.ensures.1 r))
