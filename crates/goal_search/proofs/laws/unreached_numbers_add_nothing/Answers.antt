use Rattle.goal_search.proofs.NumberedMore.{unreached_numbers_add_nothing}
use Rattle.goal_search.proofs.laws.unreached_numbers_add_nothing.Goals as goal

pub returns : goal.returns
returns c = unreached_numbers_add_nothing
