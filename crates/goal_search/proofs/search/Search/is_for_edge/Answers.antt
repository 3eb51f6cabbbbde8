use Rattle.goal_search.specs.Reasons.{for_both}
use Rattle.goal_search.proofs.search.Search.is_for_edge.Goals as goal

pub returns-then-passes : goal.returns-then-passes
returns-then-passes c = λ t from e. for_both e c.in-For.ensures.stands (c.passes.ensures.0 c.if-passes.true) (c.passes-then-passes.ensures.0 t)
