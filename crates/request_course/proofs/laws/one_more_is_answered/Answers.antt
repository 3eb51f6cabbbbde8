use Rattle.request_course.proofs.Running.{answers_more}
use Rattle.request_course.proofs.laws.one_more_is_answered.Goals as goal

pub returns : goal.returns
returns c = answers_more
