use Rattle.request_course.proofs.Staying.{course_stays}
use Rattle.request_course.proofs.laws.courses_stay.Goals as goal

pub returns : goal.returns
returns c = course_stays
