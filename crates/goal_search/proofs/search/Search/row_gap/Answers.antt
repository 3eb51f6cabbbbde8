-- A row about which each of four looks finds nothing is finished.
use Rattle.goal_search.specs.Gaps.{IsGap}
use Rattle.goal_search.specs.Searching.{core}
use Rattle.goal_search.proofs.Finishing.{finished_row}
use Rattle.goal_search.proofs.GapLaws.{for_none}
use Rattle.goal_search.proofs.search.Search.row_gap.Goals as goal

pub returns : goal.returns
returns c =
    for_none c.all_passed_gaps.result (IsGap (core c.args.self.now))
    (λ passed.
    finished_row (core c.args.self.now) c.args.row c.requires.ready c.in_default.ensures c.in_default-name_gaps.ensures c.in_default-heard_gaps.ensures
    (λ from to inside there. passed to from there inside))
    c.all_passed_gaps.ensures
