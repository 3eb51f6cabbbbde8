use Rattle.goal_search.proofs.Deciding.{rows_refute}
use Rattle.goal_search.proofs.laws.finished_rows_refute.Goals as goal

pub returns : goal.returns
returns c = rows_refute
