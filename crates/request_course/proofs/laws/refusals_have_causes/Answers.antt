use Rattle.request_course.proofs.Causes.{codes_are_known, faults_are_counted}
use Rattle.request_course.proofs.laws.refusals_have_causes.Goals as goal

pub returns-clause-codes : goal.returns-clause-codes
returns-clause-codes c = codes_are_known

pub returns-clause-faults : goal.returns-clause-faults
returns-clause-faults c = faults_are_counted
