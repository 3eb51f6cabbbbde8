use Rattle.goal_search.proofs.Deciding.{asked_decide}
use Rattle.goal_search.proofs.laws.asked_rows_decide.Goals as goal

pub returns : goal.returns
returns c = asked_decide
