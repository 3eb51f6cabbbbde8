use Rattle.request_course.proofs.Running.{answered_stays}
use Rattle.request_course.proofs.laws.what_is_answered_stays.Goals as goal

pub returns : goal.returns
returns c = answered_stays
