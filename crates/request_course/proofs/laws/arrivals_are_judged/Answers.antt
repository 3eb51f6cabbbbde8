use Rattle.request_course.proofs.Complete.{arrivals_are_judged, verdicts_are_exact}
use Rattle.request_course.proofs.laws.arrivals_are_judged.Goals as goal

pub returns-clause-judged : goal.returns-clause-judged
returns-clause-judged c = arrivals_are_judged

pub returns-clause-exact : goal.returns-clause-exact
returns-clause-exact c = verdicts_are_exact
