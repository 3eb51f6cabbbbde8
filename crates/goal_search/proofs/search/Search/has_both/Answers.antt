use Rattle.std.proofs.Common.{refl}
use Rattle.goal_search.specs.Reasons.{both}
use Rattle.goal_search.proofs.search.Search.has_both.Goals as goal

pub returns-then-has : goal.returns-then-has
returns-then-has c = λ t. both c.in-And.ensures.stands (c.has.ensures.0 c.if-has.true) (c.has-then-has.ensures.0 t) refl
