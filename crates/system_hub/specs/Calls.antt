-- What the calls of a hub say.
use Rattle.std.specs.Prelude.{◌≡◌, ◌⊎◌, ℕ, ◌+◌, ◌%◌, ◌<◌, ◌≤◌, ◌==◌, not, List, [], ◌∷◌, ◌++◌, length, Option, None, Some, MatchOption}
use Rattle.std.specs.List.{slice_get, Contains, filter}
use Rattle.frame_link.specs.Frames.{IsPart, IsTooLong}
use Rattle.frame_link.specs.declared.service.TheConstants.{MAX_PAYLOAD}
use Rattle.system_hub.specs.Events.{Event, Opened, Replied, Failed, Closed}
use Rattle.system_hub.specs.Accounts.{account_of}
use Rattle.system_hub.specs.Fair.{Waits}
use Rattle.system_hub.specs.Kept.{Kept, IsKeptOf, IsFiled, AreQueuedBut, IsTaken, IsWellStanding, seat_of, MayTurn, HasTurn, IsLaneFor}
use Rattle.system_hub.specs.Queues.{Queues}
use Rattle.system_hub.specs.declared.machine.answering.Answer.{Answer}
use Rattle.system_hub.specs.declared.machine.answering.Answer.TheVariants.{For, Slow, NoMemory, Nobody}
use Rattle.system_hub.specs.declared.machine.limits.TheConstants.{MAX_AT_LANE, MAX_LEFT}
use Rattle.system_hub.specs.declared.machine.seat.Seat.{Seat}
use Rattle.system_hub.specs.declared.machine.seat.Standing.{Standing}
use Rattle.system_hub.specs.declared.machine.seat.Standing.TheVariants.{Free, Open, Ended, Lost, Spent}

-- a hub of so many seats and lanes
pub record HasSize (clients lane_count number_place : ℕ) (kept : Kept) : Type 0 where
  pub seats : length kept.seats ≡ clients
  pub lanes : length kept.lanes ≡ lane_count
  pub place : kept.place ≡ number_place

-- Whatever had happened before, these events happened since.
pub record Follows (old new : Kept) (since : List Event) : Type 0 where
  pub history : (events : List Event) → IsKeptOf events old → IsKeptOf (events ++ since) new
  pub size : HasSize (length old.seats) (length old.lanes) old.place new

-- Whatever had happened, but that one seat may lack its turn: now it has it.
pub record Settles (but : ℕ) (old new : Kept) : Type 0 where
  pub history : (events : List Event) → IsFiled events old → AreQueuedBut but old →
      IsKeptOf events new
  pub size : HasSize (length old.seats) (length old.lanes) old.place new

-- the client has its seat, and has not failed
abbrev pub IsWell : Kept → ℕ → Type 0
IsWell kept client =
    MatchOption (seat_of kept client) ⊥ (λ seat. (seat.client ≡ client) × IsWellStanding seat.standing)

-- and bytes may come of it
abbrev pub IsHeard : Kept → ℕ → Type 0
IsHeard kept client =
    MatchOption (seat_of kept client) ⊥ (λ seat. (seat.client ≡ client) × (seat.standing ≡ Open))

-- no seat is free
abbrev pub IsFull : Kept → Type 0
IsFull kept = kept.free ≡ []

-- the bytes of a client that wait for a lane
abbrev pub inbox_in : Option Seat → List ℕ
inbox_in None = []
inbox_in (Some seat) = seat.inbox

abbrev pub kept_of : Kept → ℕ → List ℕ
kept_of kept client = inbox_in (seat_of kept client)

-- the bytes that are left to write to it
abbrev pub outbox_in : Option Seat → List ℕ
outbox_in None = []
outbox_in (Some seat) = seat.outbox

abbrev pub left_of : Kept → ℕ → List ℕ
left_of kept client = outbox_in (seat_of kept client)

-- nothing is kept of a client
pub record IsForgotten (kept : Kept) (client : ℕ) : Type 0 where
  pub inbox : kept_of kept client ≡ []
  pub outbox : left_of kept client ≡ []

-- all that was taken of it is answered and written
pub record IsIdle (seat : Seat) : Type 0 where
  pub answered : seat.under_way ≡ 0
  pub written : seat.outbox ≡ []

-- all that came of a client was taken, answered and written, and more may come
pub record IsAtRest (seat : Seat) : Type 0 where
  pub heard : seat.standing ≡ Open
  pub idle : IsIdle seat
  pub taken : seat.inbox ≡ []

abbrev pub IsQuiet : Kept → ℕ → Type 0
IsQuiet kept client =
    MatchOption (seat_of kept client) ⊥ (λ seat. (seat.client ≡ client) × IsAtRest seat)

-- a client has its seat, and all that was taken of it is answered and written
abbrev pub IsServedOut : Kept → ℕ → Type 0
IsServedOut kept client = MatchOption (seat_of kept client) ⊥
    (λ seat. (seat.client ≡ client) × IsTaken seat.standing × IsIdle seat)

-- Who may be let go: who failed; who is idle and has a length above the limit next; who said its
-- last, is idle, and has no whole frame left.
abbrev pub LeavesAs : Standing → Seat → Type 0
LeavesAs Free seat = ⊥
LeavesAs Open seat = IsIdle seat × IsTooLong MAX_PAYLOAD seat.inbox
LeavesAs Ended seat =
    IsIdle seat × (IsPart MAX_PAYLOAD seat.inbox ⊎ IsTooLong MAX_PAYLOAD seat.inbox)
LeavesAs Lost seat = Unit {0}
LeavesAs Spent seat = ⊥

abbrev pub MayLeave : Kept → ℕ → Type 0
MayLeave kept client =
    MatchOption (seat_of kept client) ⊥ (λ seat. (seat.client ≡ client) × LeavesAs seat.standing seat)

-- a lane has a frame that it has not answered
abbrev pub HasFrame : ℕ → Kept → Type 0
HasFrame lane kept = MatchOption (slice_get kept.lanes lane) ⊥ (λ l. 0 < length l.waiting)

-- a lane may have one frame more
abbrev pub HasRoom : ℕ → Kept → Type 0
HasRoom lane kept = MatchOption (slice_get kept.lanes lane) ⊥ (λ l. length l.waiting < MAX_AT_LANE)

-- whose frame a lane has to answer next
abbrev pub IsNext : ℕ → Kept → ℕ → Type 0
IsNext lane kept client =
    MatchOption (slice_get kept.lanes lane) ⊥ (λ l. slice_get l.waiting 0 ≡ Some client)

-- nobody waits for a lane
abbrev pub NobodyWaits : ℕ → Kept → Type 0
NobodyWaits lane kept = (events : List Event) → IsKeptOf events kept →
    (client : ℕ) → Waits kept.place (length kept.lanes) lane (account_of client events) → ⊥

-- a reply of so many bytes fits behind what is left to write to a client
abbrev pub HasSpace : Kept → ℕ → ℕ → Type 0
HasSpace kept client size = length (left_of kept client) + 4 + size ≤ MAX_LEFT

-- A lane's reply is for the client whose frame comes first, if it is well; else it goes nowhere. Where
-- too much would be left to write the client has failed, and where there is no memory. What happens to
-- who failed comes last.
abbrev pub AnswersBy : (ℕ → List Event) → ℕ → List ℕ → Kept → Kept → Answer → Type 0
AnswersBy failing lane payload old new (For client) = IsNext lane old client × IsWell old client
    × HasSpace old client (length payload) × Follows old new (Replied lane payload ∷ [])
AnswersBy failing lane payload old new (Slow client) = IsNext lane old client × IsWell old client
    × (HasSpace old client (length payload) → ⊥)
    × Follows old new (Replied lane payload ∷ failing client)
AnswersBy failing lane payload old new (NoMemory client) = IsNext lane old client × IsWell old client
    × HasSpace old client (length payload)
    × Follows old new (Replied lane payload ∷ failing client)
AnswersBy failing lane payload old new Nobody =
    Follows old new (Replied lane payload ∷ [])
    × ((client : ℕ) → IsNext lane old client → IsWell old client → ⊥)

-- it is to be let go
abbrev pub IsReplied : ℕ → List ℕ → Kept → Kept → Answer → Type 0
IsReplied lane payload old new answer = AnswersBy (λ c. Failed c ∷ []) lane payload old new answer

-- and is let go
abbrev pub IsAnswered : ℕ → List ℕ → Kept → Kept → Answer → Type 0
IsAnswered lane payload old new answer =
    AnswersBy (λ c. Failed c ∷ Closed c ∷ []) lane payload old new answer

-- the turns of a lane
abbrev pub turns_in : Option Queues → List ℕ
turns_in None = []
turns_in (Some l) = l.turns

abbrev pub turns_at : ℕ → Kept → List ℕ
turns_at lane kept = turns_in (slice_get kept.lanes lane)

-- who is first in the turns of a lane, and has this seat
pub record IsFirstTurn (lane : ℕ) (kept : Kept) (place : ℕ) : Type 0 where
  pub l : Queues
  pub client : ℕ
  pub others : List ℕ
  pub seat : Seat
  pub lane_is : slice_get kept.lanes lane ≡ Some l
  pub first : l.turns ≡ client ∷ others
  pub place_is : place ≡ client % length kept.seats
  pub seat_is : slice_get kept.seats place ≡ Some seat

-- and may have it, with a payload of this size
abbrev pub HasFirstTurn : ℕ → Kept → (place size : ℕ) → Type 0
HasFirstTurn lane kept place size = (t : IsFirstTurn lane kept place) × MayTurn t.seat size

-- and may not
abbrev pub IsFirstUnready : ℕ → Kept → ℕ → Type 0
IsFirstUnready lane kept place =
    (t : IsFirstTurn lane kept place) × ((size : ℕ) → MayTurn t.seat size → ⊥)

-- a seat may have a turn at this lane, and has none
pub record LacksTurn (place lanes lane : ℕ) (seat : Seat) : Type 0 where
  pub size : ℕ
  pub may : MayTurn seat size
  pub its_lane : IsLaneFor place lanes lane seat

abbrev pub WantsTurn : (k lane : ℕ) → Kept → Type 0
WantsTurn k lane kept =
    MatchOption (slice_get kept.seats k) ⊥ (LacksTurn kept.place (length kept.lanes) lane)

-- a seat has its turn, or may have none
abbrev pub WantsNoTurn : ℕ → Kept → Type 0
WantsNoTurn k kept = MatchOption (slice_get kept.seats k) ⊥
    (λ seat. (size : ℕ) → MayTurn seat size → (lane : ℕ) × HasTurn lane seat)

-- A client came, and bytes may come of it.
pub record Opens (old new : Kept) (client : ℕ) : Type 0 where
  pub came : Follows old new (Opened client ∷ [])
  pub heard : (events : List Event) → IsKeptOf events old → IsHeard new client

-- the lanes, with a client in the turns of none of them
pub record AreWithout (kept : Kept) (client : ℕ) (lanes : List Queues) : Type 0 where
  pub count : length lanes ≡ length kept.lanes
  pub each : (lane : ℕ) (l : Queues) → slice_get lanes lane ≡ Some l →
      (old : Queues) × (slice_get kept.lanes lane ≡ Some old) × (l.waiting ≡ old.waiting)
      × (l.room ≡ old.room)
      × ((l.turns ≡ old.turns) ⊎ (l.turns ≡ filter (λ c. not (c == client)) old.turns))
      × (Contains l.turns client → ⊥)

-- a client has left the turns of its lane, and all else is as it was
pub record HasLeftTurns (client : ℕ) (old new : Kept) : Type 0 where
  pub seats : new.seats ≡ old.seats
  pub free : new.free ≡ old.free
  pub place : new.place ≡ old.place
  pub count : length new.lanes ≡ length old.lanes
  pub lanes : (events : List Event) → IsKeptOf events old → AreWithout old client new.lanes
