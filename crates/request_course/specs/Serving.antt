-- What a service that answers for a node does to its state, as its trait is told.
use Rattle.std.specs.Prelude.{ℕ, List, []}
use Rattle.request_course.specs.declared.handled.Handled.TheVariants as handled
use Rattle.request_course.specs.States.{AnswersIn}
use Rattle.request_course.specs.World.{State}

-- the payload was answered, and what stays did
abbrev pub StepsTo : State → List ℕ → List ℕ → State → Type 0
StepsTo before payload reply after = AnswersIn before after payload reply handled.Replied

-- the payload was given up, and what stays did
abbrev pub StopsIn : State → List ℕ → State → Type 0
StopsIn before payload after = AnswersIn before after payload [] handled.ClockFault
