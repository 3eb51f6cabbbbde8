use Rattle.goal_search.specs.Gaps.{IsGap}
use Rattle.goal_search.specs.Searching.{core}
use Rattle.goal_search.proofs.GapLaws.{for_none}
use Rattle.goal_search.proofs.search.Search.all_passed_gaps.Goals as goal

pub returns-then-has_few : goal.returns-then-has_few
returns-then-has_few c = for_none c.source_gaps.result (IsGap (core c.args.self.now)) (λ f to from k h. f from to h k) c.source_gaps.ensures
