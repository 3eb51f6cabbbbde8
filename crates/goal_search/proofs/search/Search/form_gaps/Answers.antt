use Rattle.std.proofs.Common.{below_more}
use Rattle.goal_search.specs.Gaps.{IsFormed}
use Rattle.goal_search.specs.Searching.{core}
use Rattle.goal_search.proofs.search.Search.form_gaps.Goals as goal

pub loop-number-preserved : goal.loop-number-preserved
loop-number-preserved c = below_more (IsFormed (core c.args.self.now) c.args.row) c.loop-number.number c.loop-number.invariant c.in_default.ensures
