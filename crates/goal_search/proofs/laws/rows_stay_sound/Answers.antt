use Rattle.goal_search.proofs.More.{stay_sound}
use Rattle.goal_search.proofs.laws.rows_stay_sound.Goals as goal

pub returns : goal.returns
returns c = stay_sound
