use Rattle.request_course.proofs.Twins.{answers_agree, connections_agree, frames_are_read}
use Rattle.request_course.proofs.laws.a_connection_alone_is_a_function.Goals as goal

pub returns-clause-frame : goal.returns-clause-frame
returns-clause-frame c = answers_agree

pub returns-clause-connection : goal.returns-clause-connection
returns-clause-connection c = connections_agree

pub returns-clause-read : goal.returns-clause-read
returns-clause-read c = frames_are_read
