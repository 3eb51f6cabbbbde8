use Rattle.request_course.proofs.CausesApart.{causes_are_exact}
use Rattle.request_course.proofs.laws.causes_are_exact.Goals as goal

pub returns : goal.returns
returns c = causes_are_exact
