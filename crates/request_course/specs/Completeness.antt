-- Completeness of a request: what alone keeps one that came to its object from its verdict.
use Rattle.std.specs.Prelude.{◌≡◌, ◌≢◌, ◌⊎◌, ℕ, ◌+◌, ◌<◌, ◌≤◌, ◌-◌, ◌^◌, Bool, false, List, [], ◌∷◌, length, Some, slice_get, Contains, All}
use Rattle.denial_link.specs.declared.link.Link.{Link}
use Rattle.object_core.specs.Objects.{ObjectEntry}
use Rattle.object_core.specs.Operation.{Hold, Discard, Withdraw}
use Rattle.stmt_codec.specs.Certificates.{Certificate}
use Rattle.taos_calculus.specs.Rules.{Line}
use Rattle.taos_wire.specs.Request.{Request, IsAsked}
use Rattle.taos_wire.specs.Reply as replies
use Rattle.taos_wire.specs.Reply.{Reply, LinkSent, Sent, status_of}
use Rattle.agent_core.specs.declared.limits.TheConstants.{MAX_OWN, MAX_COMMONS, MAX_WITHDRAWN}
use Rattle.agent_core.specs.declared.told.Told.{Told}
use Rattle.agent_core.specs.Held.{is_withdrawn}
use Rattle.agent_core.specs.State.{Plan, State, Ask, Event, Asks, Holds, Discards, Withdraws, swept, moment_of, brought, new_commons}
use Rattle.agent_core.specs.Journals.{Entry, entry, Begins, Stands, state_after, Granted, Denied, IsVerdict}
use Rattle.cred_pull.specs.Fetching as fetching
use Rattle.cred_pull.specs.Fetching.{Pull}
use Rattle.request_course.specs.declared.handled.Handled.{Handled}
use Rattle.request_course.specs.declared.handled.Handled.TheVariants as handled
use Rattle.request_course.specs.Asking.{shard_full}
use Rattle.request_course.specs.AtObject.{Seeking, asks_for, object_full}
use Rattle.request_course.specs.Cells.{Node, HasPlan, Journals, no_entries, AreLegal, Place, in_shard}
use Rattle.request_course.specs.Course.{Arrival, arrival_in, ComesToClock, its_seeking, Used, CourseAfter, TurnAfter}
use Rattle.request_course.specs.Credentials.{LinkCall, Failed}
use Rattle.request_course.specs.Handling.{HasCourse, Answers, Handles, HandlesCause}
use Rattle.request_course.specs.Operations.{targets_of}
use Rattle.request_course.specs.Run.{Turn}
use Rattle.request_course.specs.World.{Setting, World, clock_faults}

module _ (n : Node) (J : Journals) (own : List Place) where
  -- the event stands at an own place of the shard of this number, after these entries
  pub record HasStepped (shard : ℕ) (event : Event) (told : Told) : Type 0 where
    pub plan : Plan
    pub planned : HasPlan n shard plan
    pub place : ℕ
    pub owned : Contains own (in_shard shard place)
    pub before : List Entry
    pub stands : Stands (J.shards shard) place before (entry event told)

  -- what the shard was when it was stepped
  abbrev pub state_met : {shard : ℕ} {event : Event} {told : Told} → HasStepped shard event told → State
  state_met s = state_after s.plan s.before

  -- What is sought was asked for: its Ask stands at the first own place, in its shard, by the access
  -- list that the object had after entries with which its journal begins.
  pub record HasAsked (x : Seeking) : Type 0 where
    pub entries : List ObjectEntry
    pub begins : Begins entries (J.objects x.request.object)
    pub told : Told
    pub step : HasStepped x.shard (Asks (asks_for x entries)) told
    pub first : slice_get own 0 ≡ Some (in_shard x.shard step.place)

  -- the Ask
  abbrev pub ask_in : {x : Seeking} → HasAsked x → Ask
  ask_in {x} k = asks_for x k.entries

  -- what the shard was at the Ask's moment: what is gone by then is let go
  abbrev pub state_asked : {x : Seeking} → HasAsked x → State
  state_asked {x} k =
      swept k.step.plan.keep (moment_of (state_met k.step) x.reading) (state_met k.step)

  -- What keeps a request that came to its object from its verdict, or its grant from being told, and
  -- the reply: its number is not new at its Ask, there is no room for what it presents, for an entry,
  -- for what it holds in common or for the issuer that it withdraws, or no shard held what it would
  -- discard.
  pub data IsHindered (x : Seeking) : Reply → Type 0 where
    object_is_full : length (J.objects x.request.object) ≡ x.fixed.limit →
        IsHindered x (object_full x.request.object x.fixed.limit)
    shard_is_full : {shard : ℕ} (plan : Plan) → HasPlan n shard plan →
        Contains (x.shard ∷ targets_of n.plans x.request.op) shard →
        length (J.shards shard) ≡ plan.limit →
        IsHindered x (shard_full shard plan.limit)
    number_used : (k : HasAsked x) →
        x.request.seq ≤ (state_asked k).last x.request.channel →
        IsHindered x (replies.Replayed ((state_asked k).last x.request.channel))
    own_full : (k : HasAsked x) →
        MAX_OWN < length ((state_asked k).own x.request.channel) + length (brought (state_asked k) (ask_in k)) →
        IsHindered x (replies.ChannelFull (length ((state_asked k).own x.request.channel)))
    commons_full : {shard : ℕ} {told : Told} → x.request.op ≡ Hold →
        (s : HasStepped shard (Holds x.certs) told) →
        MAX_COMMONS < length (state_met s).commons + length (new_commons (state_met s) x.certs) →
        IsHindered x (replies.CommonsFull (length (state_met s).commons) shard)
    nowhere_held : (digest : List ℕ) → x.request.op ≡ Discard digest →
        ((shard : ℕ) → shard < length n.plans → HasStepped shard (Discards digest) (Told.Removed 0)) →
        IsHindered x (replies.NotHeld digest)
    issuers_full : {shard issuer : ℕ} {told : Told} → x.request.op ≡ Withdraw issuer →
        (s : HasStepped shard (Withdraws issuer) told) →
        is_withdrawn (state_met s).withdrawn issuer ≡ false →
        MAX_WITHDRAWN ≤ length (state_met s).withdrawn →
        IsHindered x (replies.WithdrawnFull (length (state_met s).withdrawn) shard)

  -- the reply is the verdict on the request's Ask, which is a grant or a denial
  pub data IsItsVerdict (x : Seeking) : Reply → Type 0 where
    granted : {kept : Bool} {at : ℕ} {proof : List Line} {cites : List Certificate} {result : List ℕ}
        (k : HasAsked x) → IsVerdict k.step.plan k.step.before (ask_in k) Granted →
        IsItsVerdict x (replies.Granted kept at x.shard k.step.place proof cites result)
    denied : {link : LinkSent} (why : Link)
        (k : HasAsked x) → IsVerdict k.step.plan k.step.before (ask_in k) (Denied why) →
        IsItsVerdict x (replies.Denied x.shard k.step.place link)

  -- the reply is a grant where that is the verdict on the request's Ask, and a denial where that is
  abbrev pub IsExact : Seeking → Reply → Type 0
  IsExact x reply = IsItsVerdict x reply → (k : HasAsked x) →
      (IsVerdict k.step.plan k.step.before (ask_in k) Granted → status_of reply ≡ 0) ×
      ((why : Link) → IsVerdict k.step.plan k.step.before (ask_in k) (Denied why) → status_of reply ≡ 1)

-- What was sought at one reading of the clock came to its verdict, or was hindered.
pub record IsJudged {n : Node} {payload : List ℕ} (J : Journals) (t : Arrival n payload) (used : Used) (reply : Reply) : Type 0 where
  pub reading : ℕ
  pub read : used.readings ≡ reading ∷ []
  pub ends : IsItsVerdict n J used.places (its_seeking n t reading) reply ⊎ IsHindered n J used.places (its_seeking n t reading) reply

-- A request that came to its object, by these answers of the link, came to its verdict or was
-- hindered, or memory was refused.
abbrev pub ArrivalsAreJudged : Node → Type 0
ArrivalsAreJudged n =
    (past J : Journals) (payload : List ℕ) (used : Used) (sent : Sent) → AreLegal n J →
    CourseAfter n past J payload used sent →
    (t : Arrival n payload) → used.calls ≡ t.calls →
    IsJudged J t used sent.reply ⊎ (sent.reply ≡ replies.NoMemory)

-- A reply that is a verdict is a grant exactly where its Ask is granted, and a denial else.
abbrev pub VerdictsAreExact : Node → Type 0
VerdictsAreExact n =
    (J : Journals) (own : List Place) (x : Seeking) (reply : Reply) → IsExact n J own x reply

-- ---- where nothing failed

-- the count stayed as it was, below the last value that one can have
abbrev pub StoodStill : ℕ → ℕ → Type 0
StoodStill before after = (after ≡ before) × (before < 2 ^ 64 - 1)

-- no count of failures rose, neither the link's, nor the clock's, nor that of the fetch
abbrev pub NothingFailed : (before after : World) → Type 0
NothingFailed before after =
    StoodStill before.outside.link.faults after.outside.link.faults ×
    StoodStill before.outside.clock.faults after.outside.clock.faults ×
    StoodStill before.fetch.seen.faults after.fetch.seen.faults

-- none of the calls of the link failed
abbrev pub NoneFailed : List LinkCall → Type 0
NoneFailed calls = All (λ (c : LinkCall). c.answer ≢ Failed) calls

-- none of the calls of the fetch did
abbrev pub NoPullFailed : List Pull → Type 0
NoPullFailed pulls = All (λ (p : Pull). p ≢ fetching.Failed) pulls

-- This is a course of the payload, with what was fetched for it, in which no call failed. If it came to
-- its object, as it was sent or with what was pulled, it is judged.
pub record IsWhole (n : Node) (past J : Journals) (payload : List ℕ) (used : Used) (sent : Sent) :
    Type 0 where
  pub course : TurnAfter n past J payload used sent
  pub answered : NoneFailed used.calls
  pub fetched : NoPullFailed used.pulls
  pub judged : (pulls : List Pull) (calls : List LinkCall) (c : ComesToClock n payload pulls calls) →
      used.pulls ≡ pulls → used.calls ≡ calls →
      IsJudged J (arrival_in n c) used sent.reply ⊎ (sent.reply ≡ replies.NoMemory)

-- the turn of a frame is, whatever was seen before
abbrev pub IsWholeTurn : Node → Journals → Turn → Type 0
IsWholeTurn n J t = IsWhole n no_entries J t.frame t.used t.sent

module _ (s : Setting) (before after : World) where
  -- the payload has a reply by such a course
  abbrev pub AnswersWhole : List ℕ → List ℕ → Handled → Type 0
  AnswersWhole payload bytes h =
      (h ≡ handled.Replied) × HasCourse s before after
      (IsWhole s.node before.seen.journals after.seen.journals payload) bytes

  -- the request has a reply by such a course, whichever payload under its channel's seal it was
  abbrev pub HandlesWhole : Request → List ℕ → Handled → Type 0
  HandlesWhole r bytes h =
      (h ≡ handled.Replied) × HasCourse s before after (λ used sent.
      (payload key : List ℕ) → IsAsked s.node.channels payload r key →
      IsWhole s.node before.seen.journals after.seen.journals payload used sent) bytes

  -- The payload was answered, or came to the clock, which failed and counted it; and it was answered
  -- whole where no count of failures rose.
  pub record AnswersPayload (payload bytes : List ℕ) (h : Handled) : Type 0 where
    pub answers : Answers s before after payload bytes h
    pub cause : HandlesCause (clock_faults before) (clock_faults after) h
    pub whole : NothingFailed before after → AnswersWhole payload bytes h

  -- the same of a request, whichever payload under its channel's seal it was
  pub record AnswersRequest (r : Request) (bytes : List ℕ) (h : Handled) : Type 0 where
    pub handles : Handles s before after r bytes h
    pub cause : HandlesCause (clock_faults before) (clock_faults after) h
    pub whole : NothingFailed before after → HandlesWhole r bytes h

-- what was answered with its cause is whole where no count of failures rose
abbrev pub AnswersAreWhole : Type 0
AnswersAreWhole =
    (s : Setting) (before after : World) (h : Handled) (bytes : List ℕ) →
    HandlesCause (clock_faults before) (clock_faults after) h →
    ((payload : List ℕ) → Answers s before after payload bytes h →
    AnswersPayload s before after payload bytes h) ×
    ((r : Request) → Handles s before after r bytes h → AnswersRequest s before after r bytes h)
