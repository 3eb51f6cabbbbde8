use Rattle.std.proofs.Common.{ℕ, below_more}
use Rattle.goal_search.specs.Gaps.{IsPassedOnIn}
use Rattle.goal_search.specs.Searching.{core}
use Rattle.goal_search.proofs.search.Search.passed_gaps.Goals as goal

pub loop-from-preserved : goal.loop-from-preserved
loop-from-preserved c =
    below_more (λ (i : ℕ). IsPassedOnIn (core c.args.self.now) c.args.row i c.args.to) c.loop-from.from c.loop-from.invariant c.in_default.ensures
