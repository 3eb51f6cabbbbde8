use Rattle.goal_search.proofs.Deciding.{rows_decide}
use Rattle.goal_search.proofs.laws.finished_rows_decide.Goals as goal

pub returns : goal.returns
returns c = rows_decide
