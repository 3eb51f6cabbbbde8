use Rattle.std.proofs.Common.{refl}
use Rattle.goal_search.specs.Searching.{core}
use Rattle.goal_search.proofs.GapLaws.{edge_gap}
use Rattle.goal_search.proofs.Refusals.{never}
use Rattle.goal_search.proofs.search.Search.part_gap.Goals as goal

pub returns-then-not-has : goal.returns-then-not-has
returns-then-not-has c =
    edge_gap (core c.args.self.now) c.args.row c.args.whole c.args.part c.requires.row_in c.requires.whole_in c.requires.part_in
    (c.if-has.ensures.0 refl) (λ h. never (c.if-not-has.ensures.1 h)) c.requires.part_of
