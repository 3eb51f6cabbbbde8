use Rattle.std.proofs.Common.{ℕ, below_more}
use Rattle.goal_search.specs.Gaps.{IsPassedOnIn}
use Rattle.goal_search.specs.Searching.{core}
use Rattle.goal_search.proofs.search.Search.given_gaps.Goals as goal

pub loop-to-preserved : goal.loop-to-preserved
loop-to-preserved c =
    below_more (λ (i : ℕ). IsPassedOnIn (core c.args.self.now) c.args.row c.args.from i) c.loop-to.to c.loop-to.invariant c.in_default.ensures
