use Rattle.goal_search.proofs.Refusals.{never}
use Rattle.goal_search.proofs.search.Search.lacks_saying.Goals as goal

pub returns-then-not-has : goal.returns-then-not-has
returns-then-not-has c = (λ t. (λ h. never (c.if-not-has.ensures.1 h), c.says_all.ensures.0 t), λ p. c.says_all.ensures.1 p.1)
