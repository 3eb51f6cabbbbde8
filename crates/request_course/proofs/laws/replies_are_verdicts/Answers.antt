use Rattle.request_course.proofs.Verdicts.{replies_are_verdicts}
use Rattle.request_course.proofs.laws.replies_are_verdicts.Goals as goal

pub returns : goal.returns
returns c = replies_are_verdicts
