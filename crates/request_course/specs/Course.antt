-- The course of a request: from its payload to its reply, one case for each way that it may end.
use Rattle.std.specs.Prelude.{◌≡◌, ℕ, ◌+◌, List, [], ◌∷◌, ◌++◌, length, Err, None, Some}
use Rattle.keyed_seal.specs.Keys.{key_of}
use Rattle.object_core.specs.Shelving.{ObjectFixed, fixed_at}
use Rattle.stmt_codec.specs.Certificates.{Certificate}
use Rattle.byte_fields.specs.declared.fault.FormatFault.TheVariants as wire
use Rattle.taos_wire.specs.Request.{Request, Spells, IsAsked, IsSealed}
use Rattle.taos_wire.specs.Request.{sealed as request_sealed}
use Rattle.taos_wire.specs.RequestReading.{request_of}
use Rattle.taos_wire.specs.Reply as replies
use Rattle.taos_wire.specs.Reply.{Reply, Sent, sealed, unsealed}
use Rattle.agent_core.specs.State.{Plan}
use Rattle.cred_pull.specs.Fetching.{Texts, Pull, Gave, Lacked, Failed}
use Rattle.cred_pull.specs.Pulled as stops
use Rattle.cred_pull.specs.Pulled.{ArePulled, IsFailedAt}
use Rattle.cred_pull.specs.Pulling.{within, with_pulled}
use Rattle.request_course.specs.Cells.{Node, home, HasPlan, Journals, no_entries, Place}
use Rattle.request_course.specs.Credentials.{LinkCall, AreOpened, IsFirstRefused, IsFirstFailed, IsInterrupted}
use Rattle.request_course.specs.AtObject.{Seeking, Own, places_at, IsGuardedAfter}

-- what a course used: what was fetched, readings of the clock, answers of the link, and own places
pub record Used : Type 0 where
  pub pulls : List Pull
  pub readings : List ℕ
  pub calls : List LinkCall
  pub places : List Place

-- what was used, of these
abbrev pub fetching : List Pull → List ℕ → List LinkCall → List Place → Used
fetching pulls readings calls places =
    record { pulls = pulls; readings = readings; calls = calls; places = places }

-- the same, where nothing was fetched
abbrev pub uses : List ℕ → List LinkCall → List Place → Used
uses readings calls places = fetching [] readings calls places

-- nothing was used
abbrev pub nothing : Used
nothing = uses [] [] []

-- calls of the link alone
abbrev pub only_calls : List LinkCall → Used
only_calls calls = uses [] calls []

-- a fetch and calls of the link, before what was used then
abbrev pub pulling : Pull → List LinkCall → Used → Used
pulling pull calls used =
    fetching (pull ∷ used.pulls) used.readings (calls ++ used.calls) used.places

-- what a request came to its object with
pub record Brought : Type 0 where
  -- what the link was asked and answered for its certificates
  pub calls : List LinkCall
  pub certs : List Certificate
  -- what never changes of the object
  pub object : ObjectFixed

-- what it came with, of these
abbrev pub brought : List LinkCall → List Certificate → ObjectFixed → Brought
brought calls certs object = record { calls = calls; certs = certs; object = object }

module _ (n : Node) where
  -- the payload is a request under its channel's seal, whose certificates open, by these calls of the
  -- link
  pub record IsOpened (payload : List ℕ) (r : Request) (key : List ℕ) (calls : List LinkCall)
      (certs : List Certificate) : Type 0 where
    pub asked : IsAsked n.channels payload r key
    pub opened : AreOpened n.relay_key r.certs calls certs

  -- such a request, which came to its object
  pub record HasArrived (payload : List ℕ) (r : Request) (key : List ℕ) (b : Brought) :
      Type 0 where
    pub presented : IsOpened payload r key b.calls b.certs
    pub there : fixed_at n.objects r.object ≡ Some b.object

  -- a request that came to its object, whatever it is; the clock is read next
  pub record Arrival (payload : List ℕ) : Type 0 where
    pub request : Request
    pub key : List ℕ
    pub calls : List LinkCall
    pub certs : List Certificate
    pub object : ObjectFixed
    pub arrived : HasArrived payload request key (brought calls certs object)

  -- the reply to the request, under its channel's key
  abbrev pub answering : {payload : List ℕ} → Arrival payload → Reply → Sent
  answering t reply = sealed t.key t.request reply

  -- the shard of the request's channel
  abbrev pub its_home : {payload : List ℕ} → Arrival payload → ℕ
  its_home t = home n t.request.channel

  -- what it seeks of its object, by asking there, at a reading of the clock
  abbrev pub its_seeking : {payload : List ℕ} → Arrival payload → ℕ → Seeking
  its_seeking t reading = record {
    request = t.request;
    certs = t.certs;
    reading = reading;
    shard = its_home t;
    fixed = t.object;
  }

  -- the payload that the channel of this key would have sent with these certificates, which were
  -- pulled for the request
  abbrev pub pulled_payload : List ℕ → Request → List Certificate → List ℕ
  pulled_payload key r certs = request_sealed key (with_pulled n.relay_key r certs)

  -- The whole, with what it used, after what was seen before. What is held, what the object is, and
  -- where the entries stand, is read off the journals. A node that is out of memory may say so to any
  -- request, under a seal only where the request's own was right.
  pub data CourseAfter (past J : Journals) (payload : List ℕ) : Used → Sent → Type 0 where
    malformed : {offset : ℕ} →
        ((r : Request) → Spells r payload → ⊥) →
        request_of payload ≡ Err (wire.Malformed offset) →
        CourseAfter past J payload nothing (unsealed (replies.Malformed offset))
    unknown_channel : (r : Request) →
        Spells r payload → key_of n.channels r.channel ≡ None →
        CourseAfter past J payload nothing (unsealed (replies.UnknownChannel r.channel))
    bad_seal : (r : Request) (key : List ℕ) →
        Spells r payload → key_of n.channels r.channel ≡ Some key → (IsSealed key payload → ⊥) →
        CourseAfter past J payload nothing (unsealed replies.BadSeal)
    cert_refused : {r : Request} {key : List ℕ} {calls : List LinkCall} {index code : ℕ} →
        IsAsked n.channels payload r key → IsFirstRefused n.relay_key r.certs calls index code →
        CourseAfter past J payload (only_calls calls) (sealed key r (replies.CertRefused index code))
    relay_failed : {r : Request} {key : List ℕ} {calls : List LinkCall} {index : ℕ} →
        IsAsked n.channels payload r key → IsFirstFailed n.relay_key r.certs calls index →
        CourseAfter past J payload (only_calls calls) (sealed key r (replies.RelayFailed index))
    unknown_object : {r : Request} {key : List ℕ} {calls : List LinkCall}
        {certs : List Certificate} →
        IsOpened payload r key calls certs → fixed_at n.objects r.object ≡ None →
        CourseAfter past J payload (only_calls calls) (sealed key r (replies.UnknownObject r.object))
    ruled : {own : Own} {reply : Reply} (t : Arrival payload) (reading : ℕ) (plan : Plan) →
        HasPlan n (its_home t) plan →
        IsGuardedAfter n.plans plan (past, J) (its_seeking t reading) own reply →
        CourseAfter past J payload (uses (reading ∷ []) t.calls (places_at (its_seeking t reading) own))
        (answering t reply)
    unread : CourseAfter past J payload nothing (unsealed replies.NoMemory)
    unopened : {r : Request} {key : List ℕ} {calls : List LinkCall} →
        IsAsked n.channels payload r key → IsInterrupted n.relay_key r.certs calls →
        CourseAfter past J payload (only_calls calls) (sealed key r replies.NoMemory)

  -- the same, whatever was seen before
  abbrev pub Course : Journals → List ℕ → Used → Sent → Type 0
  Course J payload used sent = CourseAfter no_entries J payload used sent

  -- The whole with what was fetched for it. A pulled request has the course of the payload that its
  -- channel would have sent with what was pulled, which is under the channel's seal again.
  pub data TurnAfter (past J : Journals) (payload : List ℕ) : Used → Sent → Type 0 where
    plain : {used : Used} {said : Sent} →
        CourseAfter past J payload used said →
        TurnAfter past J payload used said
    pull_failed : {r : Request} {key : List ℕ} →
        IsAsked n.channels payload r key →
        TurnAfter past J payload (pulling Failed [] nothing) (sealed key r replies.PullFailed)
    unfetched : {r : Request} {key : List ℕ} →
        IsAsked n.channels payload r key →
        TurnAfter past J payload (pulling Lacked [] nothing) (sealed key r replies.NoMemory)
    unpulled : {r : Request} {key : List ℕ} {fetched : Texts} {calls : List LinkCall} →
        IsAsked n.channels payload r key →
        stops.IsInterrupted n.relay_key (within r.certs fetched) calls →
        TurnAfter past J payload (pulling (Gave fetched) calls nothing) (sealed key r replies.NoMemory)
    pull_stopped : {r : Request} {key : List ℕ} {fetched : Texts} {calls : List LinkCall}
        {place : ℕ} →
        IsAsked n.channels payload r key →
        IsFailedAt n.relay_key (within r.certs fetched) calls place →
        TurnAfter past J payload (pulling (Gave fetched) calls nothing)
        (sealed key r (replies.RelayFailed (length r.certs + place)))
    pulled : {r : Request} {key : List ℕ} {fetched : Texts} {calls : List LinkCall}
        {certs : List Certificate} {used : Used} {said : Sent} →
        IsAsked n.channels payload r key →
        ArePulled n.relay_key (within r.certs fetched) calls certs →
        CourseAfter past J (pulled_payload key r certs) used said →
        TurnAfter past J payload (pulling (Gave fetched) calls used) said

  -- a payload that came to the clock, by these answers of the fetch and the link: as it was sent, or
  -- with what was pulled for it
  pub data ComesToClock (payload : List ℕ) : List Pull → List LinkCall → Type 0 where
    as_sent : (t : Arrival payload) →
        ComesToClock payload [] t.calls
    with_more : {r : Request} {key : List ℕ} {fetched : Texts} {calls : List LinkCall}
        {certs : List Certificate} →
        IsAsked n.channels payload r key →
        ArePulled n.relay_key (within r.certs fetched) calls certs →
        (t : Arrival (pulled_payload key r certs)) →
        ComesToClock payload (Gave fetched ∷ []) (calls ++ t.calls)

  -- the payload that came to its object then
  abbrev pub payload_in : {payload : List ℕ} {fetches : List Pull} {calls : List LinkCall} →
      ComesToClock payload fetches calls → List ℕ
  payload_in {payload} (as_sent t) = payload
  payload_in (with_more {r} {key} {certs} asked opened t) = pulled_payload key r certs

  -- as what it came there
  abbrev pub arrival_in : {payload : List ℕ} {fetches : List Pull} {calls : List LinkCall} →
      (c : ComesToClock payload fetches calls) → Arrival (payload_in c)
  arrival_in (as_sent t) = t
  arrival_in (with_more asked opened t) = t
