use Rattle.goal_search.proofs.Adding.{adding_keeps_sound}
use Rattle.goal_search.proofs.laws.adding_keeps_sound.Goals as goal

pub returns : goal.returns
returns c = adding_keeps_sound
