use Rattle.goal_search.proofs.More.{rows_add_up}
use Rattle.goal_search.proofs.laws.finished_rows_add_up.Goals as goal

pub returns : goal.returns
returns c = rows_add_up
