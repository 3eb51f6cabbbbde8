use Rattle.goal_search.proofs.Adding.{answers_are_closed}
use Rattle.goal_search.proofs.laws.answers_are_closed.Goals as goal

pub returns : goal.returns
returns c = answers_are_closed
