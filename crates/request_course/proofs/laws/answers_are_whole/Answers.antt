use Rattle.request_course.proofs.Whole.{answers_are_whole}
use Rattle.request_course.proofs.laws.answers_are_whole.Goals as goal

pub returns : goal.returns
returns c = answers_are_whole
