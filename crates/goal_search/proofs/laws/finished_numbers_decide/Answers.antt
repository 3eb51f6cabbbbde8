use Rattle.goal_search.proofs.Numbers.{numbers_decide}
use Rattle.goal_search.proofs.laws.finished_numbers_decide.Goals as goal

pub returns : goal.returns
returns c = numbers_decide
