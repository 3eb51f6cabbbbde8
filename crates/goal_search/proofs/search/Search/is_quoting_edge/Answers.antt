use Rattle.goal_search.specs.Reasons.{quoting}
use Rattle.goal_search.proofs.search.Search.is_quoting_edge.Goals as goal

pub returns-then-passes : goal.returns-then-passes
returns-then-passes c = λ t from e. quoting e c.in-Quote.ensures.stands (c.passes.ensures.0 c.if-passes.true) (c.passes-then-passes.ensures.0 t)
