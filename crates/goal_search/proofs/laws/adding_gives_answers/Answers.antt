use Rattle.goal_search.proofs.NumberedAdding.{adding_gives_answers}
use Rattle.goal_search.proofs.laws.adding_gives_answers.Goals as goal

pub returns : goal.returns
returns c = adding_gives_answers
