use Rattle.goal_search.proofs.NumberedMore.{numbers_stay_sound}
use Rattle.goal_search.proofs.laws.numbers_stay_sound.Goals as goal

pub returns : goal.returns
returns c = numbers_stay_sound
