use Rattle.goal_search.proofs.More.{unreached_adds_nothing}
use Rattle.goal_search.proofs.laws.unreached_adds_nothing.Goals as goal

pub returns : goal.returns
returns c = unreached_adds_nothing
