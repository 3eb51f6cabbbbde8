use Rattle.request_course.proofs.Going.{goes_on_twice}
use Rattle.request_course.proofs.laws.going_on_goes_on.Goals as goal

pub returns : goal.returns
returns c = goes_on_twice
