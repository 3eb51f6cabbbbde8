use Rattle.std.proofs.Common.{ℕ, below_more}
use Rattle.goal_search.specs.Gaps.{IsPassedOnIn}
use Rattle.goal_search.specs.Searching.{core, IsNumber}
use Rattle.goal_search.proofs.search.Search.source_gaps.Goals as goal

pub loop-from-preserved : goal.loop-from-preserved
loop-from-preserved c =
    below_more (λ (i : ℕ). (to : ℕ) → IsNumber (core c.args.self.now) to → IsPassedOnIn (core c.args.self.now) c.args.row i to) c.loop-from.from c.loop-from.invariant c.in_default.ensures
