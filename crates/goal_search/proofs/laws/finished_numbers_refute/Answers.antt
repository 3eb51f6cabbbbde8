use Rattle.goal_search.proofs.Numbers.{numbers_refute}
use Rattle.goal_search.proofs.laws.finished_numbers_refute.Goals as goal

pub returns : goal.returns
returns c = numbers_refute
