use Rattle.request_course.proofs.Unchanged.{nothing_changes, replies_tell_ungranted}
use Rattle.request_course.proofs.laws.no_grant_changes_nothing.Goals as goal

pub returns-clause-unchanged : goal.returns-clause-unchanged
returns-clause-unchanged c = nothing_changes

pub returns-clause-told : goal.returns-clause-told
returns-clause-told c = replies_tell_ungranted
