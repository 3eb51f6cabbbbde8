use Rattle.request_course.proofs.Effecting.{effects_are_projected}
use Rattle.request_course.proofs.Unchanged.{objects_are_made}
use Rattle.request_course.proofs.laws.effects_are_granted.Goals as goal

pub returns-clause-projected : goal.returns-clause-projected
returns-clause-projected c = effects_are_projected

pub returns-clause-objects : goal.returns-clause-objects
returns-clause-objects c = objects_are_made
