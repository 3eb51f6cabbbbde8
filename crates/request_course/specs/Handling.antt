-- What the handling of a request promises: from its payload on, and from where it was read on.
use Rattle.std.specs.Prelude.{◌≡◌, ℕ, ◌<◌, ◌≤◌, ◌^◌, Bool, true, false, List, [], ◌∷◌, length, Option, IsSome, is_some}
use Rattle.std.specs.Io.KnownBytes.{Keeps}
use Rattle.frame_link.specs.Faults.{Rose}
use Rattle.frame_link.specs.Readings.{ShowsKnown}
use Rattle.stmt_codec.specs.Certificates.{Certificate}
use Rattle.taos_wire.specs.Request.{Request, IsAsked}
use Rattle.taos_wire.specs.Reply.{Sent, spelling}
use Rattle.request_course.specs.declared.handled.Handled.{Handled}
use Rattle.request_course.specs.declared.handled.Handled.TheVariants as handled
use Rattle.object_core.specs.Shelving.{ObjectFixed}
use Rattle.agent_core.specs.State.{Plan}
use Rattle.request_course.specs.Asking.{TellsFull}
use Rattle.request_course.specs.Cells.{AreLegal, GoesOn, HasPlan}
use Rattle.request_course.specs.World.{FetchUse, Setting, World}
use Rattle.request_course.specs.Credentials.{LinkCall, IsLinked}
use Rattle.cred_pull.specs.Fetching.{FetchSeen, IsFetched, Pull}
use Rattle.request_course.specs.Course.{brought, ComesToClock, HasArrived, Used, CourseAfter, TurnAfter}

-- the clock gave these readings, one after the other
abbrev pub Gave : Option (List ℕ) → Option (List ℕ) → List ℕ → Type 0
Gave before after [] = Keeps before after
Gave before after (x ∷ xs) =
    (middle : Option (List ℕ)) × ShowsKnown before middle x × Gave middle after xs

-- the fetch answered so, one call after the other
abbrev pub AreFetched : FetchSeen → FetchSeen → List Pull → Type 0
AreFetched before after [] = after ≡ before
AreFetched before after (pull ∷ pulls) =
    (middle : FetchSeen) × IsFetched before middle pull × AreFetched middle after pulls

-- the same, and the use that is made of it stayed
abbrev pub ArePulls : FetchUse → FetchUse → List Pull → Type 0
ArePulls before after pulls =
    (after.pulls ≡ before.pulls) × AreFetched before.seen after.seen pulls

-- where certificates are fetched, there is one call of the fetch for what is under its channel's
-- seal; and none for anything else, so none before the seal was checked
abbrev pub PullsFor : (pulls under_seal : Bool) → List Pull → Type 0
PullsFor true true pulls = length pulls ≡ 1
PullsFor true false pulls = pulls ≡ []
PullsFor false under_seal pulls = pulls ≡ []

module _ (s : Setting) (before after : World) where
  -- a course of which this holds was taken to a reply
  pub record HasCourse (IsTaken : Used → Sent → Type 0) (bytes : List ℕ) : Type 0 where
    -- what the clock gave, what the link was asked and answered, and the own places
    pub used : Used
    pub sent : Sent
    pub goes_on : GoesOn s.alone before.seen after.seen used.places
    pub legal : AreLegal s.node after.seen.journals
    pub course : IsTaken used sent
    pub tells_full : (shard : ℕ) (plan : Plan) → HasPlan s.node shard plan →
        TellsFull plan (before.seen.journals.shards shard) (after.seen.journals.shards shard)
        used.places sent.reply
    pub gave : Gave before.outside.clock.told after.outside.clock.told used.readings
    pub linked : IsLinked s.node.number before.outside.link after.outside.link used.calls
    pub fetched : ArePulls before.fetch after.fetch used.pulls
    pub asked : PullsFor before.fetch.pulls (is_some sent.key) used.pulls
    -- the bytes are those of the reply, with its tag
    pub spelled : bytes ≡ spelling sent
    -- the bytes fit a frame
    pub short : length bytes < 2 ^ 26

  -- something came to the clock, which failed: no shard was stepped, and no object taken
  pub record StopsAtClock (HasCome : List Pull → List LinkCall → Type 0) : Type 0 where
    pub pulls : List Pull
    pub calls : List LinkCall
    pub unchanged : after.seen ≡ before.seen
    pub come : HasCome pulls calls
    pub fetched : ArePulls before.fetch after.fetch pulls
    pub asked : PullsFor before.fetch.pulls true pulls
    pub keeps : Keeps before.outside.clock.told after.outside.clock.told
    pub linked : IsLinked s.node.number before.outside.link after.outside.link calls

  -- a course of the request was taken to a reply under a seal, whichever payload under its channel's
  -- seal it was
  abbrev pub HandledTo : Request → List ℕ → Type 0
  HandledTo r bytes =
      HasCourse (λ used sent. IsSome sent.key ×
      ((payload key : List ℕ) → IsAsked s.node.channels payload r key →
      CourseAfter s.node before.seen.journals after.seen.journals payload used sent)) bytes

  -- the request came to the clock, which failed
  abbrev pub StoppedAtClock : Request → Type 0
  StoppedAtClock r =
      StopsAtClock (λ pulls calls. (pulls ≡ []) × (certs : List Certificate) × (object : ObjectFixed) ×
      ((payload key : List ℕ) → IsAsked s.node.channels payload r key →
      HasArrived s.node payload r key (brought calls certs object)))

  -- one or the other, of a request
  abbrev pub Handles : Request → List ℕ → Handled → Type 0
  Handles r bytes handled.Replied = HandledTo r bytes
  Handles r bytes handled.ClockFault = StoppedAtClock r

  -- the same of a request for which certificates are fetched
  abbrev pub HandlesPulled : Request → List ℕ → Handled → Type 0
  HandlesPulled r bytes handled.Replied =
      HasCourse (λ used sent. (payload key : List ℕ) → IsAsked s.node.channels payload r key →
      TurnAfter s.node before.seen.journals after.seen.journals payload used sent) bytes
  HandlesPulled r bytes handled.ClockFault =
      StopsAtClock (λ pulls calls. (payload key : List ℕ) → IsAsked s.node.channels payload r key →
      ComesToClock s.node payload pulls calls)

  -- a course of the payload was taken to a reply
  abbrev pub AnsweredTo : List ℕ → List ℕ → Type 0
  AnsweredTo payload bytes =
      HasCourse (λ used sent. TurnAfter s.node before.seen.journals after.seen.journals payload used
      sent) bytes

  -- the payload came to the clock, which failed
  abbrev pub UnansweredAtClock : List ℕ → Type 0
  UnansweredAtClock payload = StopsAtClock (ComesToClock s.node payload)

  -- one or the other, of a payload
  abbrev pub Answers : List ℕ → List ℕ → Handled → Type 0
  Answers payload bytes handled.Replied = AnsweredTo payload bytes
  Answers payload bytes handled.ClockFault = UnansweredAtClock payload

-- the clock's count of failures rose where its fault is answered, and else stayed as it was
abbrev pub HandlesCause : ℕ → ℕ → Handled → Type 0
HandlesCause clock0 clock1 handled.Replied = clock1 ≡ clock0
HandlesCause clock0 clock1 handled.ClockFault = (clock0 ≤ clock1) × Rose clock0 clock1

-- where the clock failed, the buffer holds what it held
abbrev pub LeavesReply : List ℕ → List ℕ → Handled → Type 0
LeavesReply old new handled.Replied = Unit {0}
LeavesReply old new handled.ClockFault = new ≡ old
