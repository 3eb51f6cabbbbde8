-- A connection that is served: its frames as `frame_link` serves them, and the course that each had
-- in the journals as they are at the end.
use Rattle.std.specs.Prelude.{◌≡◌, ℕ, true, List, ◌++◌, All, is_some}
use Rattle.frame_link.specs.declared.outcome.Outcome.{Outcome}
use Rattle.frame_link.specs.declared.outcome.Outcome.TheVariants.{ClockFault}
use Rattle.frame_link.specs.Served.{Line, IsServed, HasCauses, IsComplete, replies_of}
use Rattle.cred_pull.specs.Fetching.{Pull}
use Rattle.request_course.specs.Cells.{AreLegal, GoesOn}
use Rattle.request_course.specs.World.{Setting, World, clock_faults}
use Rattle.request_course.specs.Credentials.{IsLinked}
use Rattle.request_course.specs.Course.{Used}
use Rattle.request_course.specs.Completeness.{StoodStill, IsWholeTurn}
use Rattle.request_course.specs.Handling.{ArePulls, PullsFor, Gave, AnsweredTo, UnansweredAtClock}
use Rattle.request_course.specs.Run.{Answered, pulls_of}

-- a course of the payload was taken to the reply
abbrev pub AnswersFrame : Setting → World → List ℕ → List ℕ → World → Type 0
AnswersFrame s before payload reply after = AnsweredTo s before after payload reply

-- the payload came to the clock, which failed
abbrev pub GivesUpFrame : Setting → World → List ℕ → World → Type 0
GivesUpFrame s before payload after = UnansweredAtClock s before after payload

-- The whole: at most so many whole frames of the input were taken, and each was answered by a frame
-- of the output, in order. Each has one course in the journals at the end, by own places that are
-- new in them; these are all own places that came.
pub record IsConnection (s : Setting) (limit : ℕ) (before after : Line World) (outcome : Outcome) :
    Type 0 where
  -- the bytes that were taken and written, the frames and the replies
  pub served : IsServed (AnswersFrame s) (GivesUpFrame s) limit before after outcome
  -- what the courses used together: what the clock gave, what the link was asked and answered, and
  -- the own places in the journals, each in order
  pub used : Used
  pub goes_on : GoesOn s.alone before.service.seen after.service.seen used.places
  pub legal : AreLegal s.node after.service.seen.journals
  pub answered : Answered s.node after.service.seen.journals used
      served.payloads (replies_of served.turns) outcome
  pub gave : Gave before.service.outside.clock.told after.service.outside.clock.told used.readings
  pub linked : IsLinked s.node.number before.service.outside.link after.service.outside.link
      used.calls
  -- what was fetched: where certificates are, one call for each reply under a seal, and one for the
  -- frame at which the clock failed; else none
  pub fetched : ArePulls before.service.fetch after.service.fetch used.pulls
  pub asked : All (λ t. PullsFor before.service.fetch.pulls (is_some t.sent.key) t.used.pulls)
      answered.turns
  pub last_asked : outcome ≡ ClockFault → (last : List Pull) →
      used.pulls ≡ pulls_of answered.turns ++ last → PullsFor before.service.fetch.pulls true last

-- The same, with the cause of its outcome: the counts of faults are of the same input, output and
-- clock. An input of whole frames is answered to its end, unless a count rises; and each answer is
-- whole, unless that of the link or of the fetch does.
pub record Connects (s : Setting) (limit : ℕ) (before after : Line World) (outcome : Outcome) :
    Type 0 where
  pub connection : IsConnection s limit before after outcome
  pub causes : HasCauses clock_faults before after outcome
  pub complete : IsComplete clock_faults limit before after outcome
  pub whole :
      StoodStill before.service.outside.link.faults after.service.outside.link.faults →
      StoodStill before.service.fetch.seen.faults after.service.fetch.seen.faults →
      All (IsWholeTurn s.node after.service.seen.journals) connection.answered.turns
