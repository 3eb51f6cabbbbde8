use Rattle.goal_search.specs.Searching.{core}
use Rattle.goal_search.proofs.GapLaws.{lacks_passed}
use Rattle.goal_search.proofs.Refusals.{never}
use Rattle.goal_search.proofs.search.Search.member_gap.Goals as goal

pub returns-then-not-has : goal.returns-then-not-has
returns-then-not-has c = lacks_passed (core c.args.self.now) c.args.row c.args.from c.args.to (λ k. never (c.if-not-has.ensures.1 k))
