use Rattle.std.proofs.Common.{inr}
use Rattle.goal_search.specs.Gaps.{IsGap}
use Rattle.goal_search.specs.Searching.{core}
use Rattle.goal_search.proofs.GapLaws.{for_none}
use Rattle.goal_search.proofs.search.Search.pair_gap.Goals as goal

pub operand_gap-requires-clause-edge : goal.operand_gap-requires-clause-edge
operand_gap-requires-clause-edge c = λ q. c.requires.edge c.in-Passed.ensures q

pub returns-in-Passed : goal.returns-in-Passed
returns-in-Passed c = for_none c.operand_gap.result (IsGap (core c.args.self.now)) (λ r. inr r) c.operand_gap.ensures

pub returns-in-Open : goal.returns-in-Open
returns-in-Open c = for_none c.unless_refused.result (IsGap (core c.args.self.now)) (λ r. inr r) c.unless_refused.ensures
