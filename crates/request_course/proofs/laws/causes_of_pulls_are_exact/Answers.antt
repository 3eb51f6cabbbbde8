use Rattle.request_course.proofs.PullCauses.{pulled_are_presented, turn_causes_are_exact}
use Rattle.request_course.proofs.laws.causes_of_pulls_are_exact.Goals as goal

pub returns-clause-exact : goal.returns-clause-exact
returns-clause-exact c = turn_causes_are_exact

pub returns-clause-presented : goal.returns-clause-presented
returns-clause-presented c = pulled_are_presented
