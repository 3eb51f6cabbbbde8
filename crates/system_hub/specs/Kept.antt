-- What a hub keeps, and that a history left it so.
use Rattle.std.specs.Prelude.{◌≡◌, ◌≢◌, ◌↔◌, ℕ, ◌+◌, ◌%◌, ◌<◌, ◌≤◌, true, false, List, [], ◌∷◌, ◌++◌, length, Option, None, Some, MatchOption}
use Rattle.std.specs.List.{slice_get, Contains, AllPairs}
use Rattle.frame_link.specs.Frames.{frame, framed}
use Rattle.frame_link.specs.declared.service.TheConstants.{MAX_PAYLOAD}
use Rattle.system_hub.specs.Events.{Event}
use Rattle.system_hub.specs.Accounts.{Account, account_of, nothing, IsPresent, IsSound, IsOpen, number_at}
use Rattle.system_hub.specs.Lanes.{turns_of, unanswered}
use Rattle.system_hub.specs.Lawful.{IsLawful}
use Rattle.system_hub.specs.Fair.{WaitsThrough}
use Rattle.system_hub.specs.First.{IsFirst}
use Rattle.system_hub.specs.Queues.{Queues}
use Rattle.system_hub.specs.declared.machine.inbox.First.TheVariants.{Whole}
use Rattle.system_hub.specs.declared.machine.limits.TheConstants.{MAX_UNDER_WAY, MAX_READY}
use Rattle.system_hub.specs.declared.machine.seat.Route.{Route}
use Rattle.system_hub.specs.declared.machine.seat.Seat.{Seat}
use Rattle.system_hub.specs.declared.machine.seat.Standing.{Standing}
use Rattle.system_hub.specs.declared.machine.seat.Standing.TheVariants.{Free, Open, Ended, Lost, Spent}

-- seats for clients, lanes, the places of free seats, and the place of the number that chooses a
-- lane
pub record Kept : Type 0 where
  pub seats : List Seat
  pub lanes : List Queues
  pub free : List ℕ
  pub place : ℕ

-- The seat of a client. The numbers of those who have one seat after one another are as far apart
-- as there are seats, so a number tells the seat, and two clients never have one number.
abbrev pub seat_of : Kept → ℕ → Option Seat
seat_of kept client = slice_get kept.seats (client % length kept.seats)

-- somebody has the seat
abbrev pub IsTaken : Standing → Type 0
IsTaken Free = ⊥
IsTaken Open = Unit {0}
IsTaken Ended = Unit {0}
IsTaken Lost = Unit {0}
IsTaken Spent = ⊥

-- and has not failed
abbrev pub IsWellStanding : Standing → Type 0
IsWellStanding Free = ⊥
IsWellStanding Open = Unit {0}
IsWellStanding Ended = Unit {0}
IsWellStanding Lost = ⊥
IsWellStanding Spent = ⊥

-- a seat that nobody has
abbrev pub blank : ℕ → Standing → Seat
blank client standing = record {
  client = client;
  standing = standing;
  inbox = [];
  outbox = [];
  under_way = 0;
  route = None;
}

-- what a history says of who has a seat that stands so
abbrev pub StandsBy : Account → Standing → Type 0
StandsBy a Free = ⊥
StandsBy a Open = IsOpen a
StandsBy a Ended = IsSound a × (0 < a.ends)
StandsBy a Lost = IsPresent a × (0 < a.failures)
StandsBy a Spent = ⊥

-- The lane that is noted is that of the first frame, which has come whole; without one nothing was
-- taken.
abbrev pub IsRouted : (place lanes : ℕ) → Account → Option Route → Type 0
IsRouted place lanes a None = a.taken ≡ []
IsRouted place lanes a (Some route) = (first rest : List ℕ)
    × (a.received ≡ frame first ++ rest) × (length first ≤ MAX_PAYLOAD)
    × (route.lane ≡ number_at place first % lanes)

-- a seat has of its client what the history left
pub record Sits (place lanes : ℕ) (a : Account) (seat : Seat) : Type 0 where
  pub stands : StandsBy a seat.standing
  -- what came is what was taken, and what waits
  pub bytes : a.received ≡ framed a.taken ++ seat.inbox
  -- what was taken is what was answered, and what is under way
  pub under_way : length a.taken ≡ length a.replies + seat.under_way
  -- what was answered is what was written, and what is left
  pub left : IsWellStanding seat.standing → framed a.replies ≡ a.written ++ seat.outbox
  pub routed : IsRouted place lanes a seat.route

-- the first number of a seat that no client has had
abbrev pub next_number : Standing → ℕ → ℕ
next_number Free client = client
next_number Open client = client + 1
next_number Ended client = client + 1
next_number Lost client = client + 1
next_number Spent client = client + 1

-- a seat whose place is this one of so many
pub record IsSeatAt (place lanes seats k : ℕ) (events : List Event) (seat : Seat) : Type 0 where
  pub number : seat.client % seats ≡ k
  pub to_come : (client : ℕ) → client % seats ≡ k →
      next_number seat.standing seat.client ≤ client → account_of client events ≡ nothing
  pub only : (client : ℕ) → client % seats ≡ k → IsPresent (account_of client events) →
      (client ≡ seat.client) × IsTaken seat.standing
  pub sits : IsTaken seat.standing → Sits place lanes (account_of seat.client events) seat
  -- nothing is kept of who had it
  pub empty : (IsTaken seat.standing → ⊥) → seat ≡ blank seat.client seat.standing

-- Whose turn is when. Who waits and is among the turns has seen no turn of those before it; and who
-- is not among them has seen none.
pub record AreTurns (place lanes lane : ℕ) (events : List Event) (turns : List ℕ) : Type 0 where
  pub apart : AllPairs (λ a b. a ≢ b) turns
  pub ahead : (before during : List Event) (front behind : List ℕ) (client other : ℕ) →
      events ≡ before ++ during → WaitsThrough place lanes lane client before during →
      turns ≡ front ++ client ∷ behind → Contains front other →
      turns_of other lane during ≡ 0
  pub out : (before during : List Event) (client other : ℕ) →
      events ≡ before ++ during → WaitsThrough place lanes lane client before during →
      (Contains turns client → ⊥) → turns_of other lane during ≡ 0

-- a lane has what the history left
pub record IsLaneAt (place lanes lane : ℕ) (events : List Event) (l : Queues) : Type 0 where
  pub waiting : l.waiting ≡ unanswered lane events
  pub turns : AreTurns place lanes lane events l.turns

-- who has the seat stands in the turns of this lane
abbrev pub HasTurn : ℕ → Seat → Type 0
HasTurn lane seat = seat.route ≡ Some (record { lane = lane; queued = true })

-- the client has its seat
pub record HasSeat (client : ℕ) (seat : Seat) : Type 0 where
  pub its : seat.client ≡ client
  pub taken : IsTaken seat.standing

abbrev pub IsHere : Kept → ℕ → Type 0
IsHere kept client = MatchOption (seat_of kept client) ⊥ (HasSeat client)

-- What a hub keeps is what this history left, and the history is as the law says.
pub record IsFiled (events : List Event) (kept : Kept) : Type 0 where
  pub seats : (k : ℕ) (seat : Seat) → slice_get kept.seats k ≡ Some seat →
      IsSeatAt kept.place (length kept.lanes) (length kept.seats) k events seat
  pub lanes : (lane : ℕ) (l : Queues) → slice_get kept.lanes lane ≡ Some l →
      IsLaneAt kept.place (length kept.lanes) lane events l
  -- there is room for the turn of each seat
  pub rooms : (lane : ℕ) (l : Queues) → slice_get kept.lanes lane ≡ Some l → l.room ≡ length kept.seats
  -- a seat has noted in whose turns it stands, and only those who sit have turns
  pub noted : (k lane : ℕ) (seat : Seat) (l : Queues) → slice_get kept.seats k ≡ Some seat →
      slice_get kept.lanes lane ≡ Some l →
      (Contains l.turns seat.client ↔ HasTurn lane seat)
  pub seated : (lane client : ℕ) (l : Queues) → slice_get kept.lanes lane ≡ Some l →
      Contains l.turns client → IsHere kept client
  -- the places of free seats, each once
  pub free : (k : ℕ) → Contains kept.free k →
      MatchOption (slice_get kept.seats k) ⊥ (λ seat. seat.standing ≡ Free)
  pub apart : AllPairs (λ a b. a ≢ b) kept.free
  pub lawful : IsLawful kept.place (length kept.lanes) events

-- Who has a seat that may have a turn: what it sent last begins with a whole frame, few of its
-- frames are under way, and little is left to write.
pub record MayTurn (seat : Seat) (size : ℕ) : Type 0 where
  pub well : IsWellStanding seat.standing
  pub few : seat.under_way < MAX_UNDER_WAY
  pub listens : length seat.outbox ≤ MAX_READY
  pub whole : IsFirst seat.inbox (Whole size)

-- the size of the payload with which it may, or that it may not
abbrev pub IsReady : Seat → Option ℕ → Type 0
IsReady seat (Some size) = MayTurn seat size
IsReady seat None = (size : ℕ) → MayTurn seat size → ⊥

-- whoever may have a turn stands in the turns of some lane; but for one seat
abbrev pub AreQueuedBut : ℕ → Kept → Type 0
AreQueuedBut but kept = (k size : ℕ) (seat : Seat) → slice_get kept.seats k ≡ Some seat → k ≢ but →
    MayTurn seat size → (lane : ℕ) × HasTurn lane seat

abbrev pub AreQueued : Kept → Type 0
AreQueued kept = (k size : ℕ) (seat : Seat) → slice_get kept.seats k ≡ Some seat →
    MayTurn seat size → (lane : ℕ) × HasTurn lane seat

-- this history left what is kept
pub record IsKeptOf (events : List Event) (kept : Kept) : Type 0 where
  pub filed : IsFiled events kept
  pub queued : AreQueued kept

-- The lane of a seat that has no turn: the one that it has noted, or else that of its first frame.
pub data IsLaneFor (place lanes lane : ℕ) (seat : Seat) : Type 0 where
  by_note : seat.route ≡ Some (record { lane = lane; queued = false }) → IsLaneFor place lanes lane seat
  by_frame : (payload rest : List ℕ) → seat.route ≡ None → seat.inbox ≡ frame payload ++ rest →
      length payload ≤ MAX_PAYLOAD → lane ≡ number_at place payload % lanes →
      IsLaneFor place lanes lane seat
