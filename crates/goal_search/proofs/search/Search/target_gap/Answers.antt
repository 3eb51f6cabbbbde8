use Rattle.std.proofs.Common.{refl}
use Rattle.goal_search.specs.Searching.{core}
use Rattle.goal_search.proofs.GapLaws.{there_passed}
use Rattle.goal_search.proofs.search.Search.target_gap.Goals as goal

pub returns-then-has : goal.returns-then-has
returns-then-has c = λ from h. there_passed (core c.args.self.now) c.args.row from c.args.to (c.if-has.ensures.0 refl)
