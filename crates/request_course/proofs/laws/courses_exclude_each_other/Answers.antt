use Rattle.request_course.proofs.Agreeing.{courses_agree}
use Rattle.request_course.proofs.Excluding.{arrival_excludes}
use Rattle.request_course.proofs.laws.courses_exclude_each_other.Goals as goal

pub returns-clause-agree : goal.returns-clause-agree
returns-clause-agree c = courses_agree

pub returns-clause-arrived : goal.returns-clause-arrived
returns-clause-arrived c = arrival_excludes
