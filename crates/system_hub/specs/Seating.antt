-- Who has a seat, and until when.
use Rattle.std.specs.Prelude.{◌≡◌, ◌≢◌, ◌↔◌, Bool, true, false, ℕ, List, [], ◌∷◌, ◌++◌, Option, None, Some}
use Rattle.std.specs.List.{slice_get}
use Rattle.system_hub.specs.Events.{Event, Closed}
use Rattle.system_hub.specs.Accounts.{Account, IsSound}
use Rattle.system_hub.specs.Lawful.{IsThrough}
use Rattle.system_hub.specs.Kept.{Kept, IsKeptOf, IsTaken, IsHere}
use Rattle.system_hub.specs.Calls.{Follows, MayLeave, IsForgotten}
use Rattle.system_hub.specs.declared.machine.answering.Answer.{Answer}
use Rattle.system_hub.specs.declared.machine.answering.Answer.TheVariants.{For, Slow, NoMemory, Nobody}
use Rattle.system_hub.specs.declared.machine.seat.Seat.{Seat}

-- What keeps a client's seat, by what happened: it has not failed, and it is not through. So something
-- may come of it yet, or a reply to it is not written.
pub record IsInService (a : Account) : Type 0 where
  pub sound : IsSound a
  pub goes_on : IsThrough a → ⊥

-- No seat is kept by who failed, or is through.
abbrev pub AreSettled : Kept → Type 0
AreSettled kept = (client : ℕ) → MayLeave kept client → ⊥

-- no seat is taken
abbrev pub IsEmpty : Kept → Type 0
IsEmpty kept = (k : ℕ) (seat : Seat) → slice_get kept.seats k ≡ Some seat → IsTaken seat.standing → ⊥

-- the client has its seat no more
abbrev pub HasLeft : ℕ → Kept → Type 0
HasLeft client kept = IsHere kept client → ⊥

-- Nobody comes or goes but this client; and where no seat was kept by who failed or is through, none is.
pub record LeavesOthers (client : ℕ) (old new : Kept) : Type 0 where
  pub others : (c : ℕ) → c ≢ client → (IsHere old c ↔ IsHere new c)
  pub settled : AreSettled old → AreSettled new

-- nobody comes or goes, and so on
pub record LeavesAll (old new : Kept) : Type 0 where
  pub all : (c : ℕ) → (IsHere old c ↔ IsHere new c)
  pub settled : AreSettled old → AreSettled new

-- This happened, and the client keeps its seat; or it was through with it, and was let go.
abbrev pub Keeps : ℕ → List Event → Kept → Kept → Bool → Type 0
Keeps client since old new true = Follows old new since × IsHere new client
Keeps client since old new false = Follows old new (since ++ Closed client ∷ []) × HasLeft client new

-- a client came to its seat
pub record Seats (old new : Kept) (client : ℕ) : Type 0 where
  pub here : (events : List Event) → IsKeptOf events old → IsHere new client
  pub others : (events : List Event) → IsKeptOf events old → LeavesOthers client old new

-- Whose seat a lane's reply takes: nobody's where it reaches its client.
abbrev pub SeatsAfter : Kept → Kept → Answer → Type 0
SeatsAfter old new (For client) = LeavesAll old new
SeatsAfter old new (Slow client) = LeavesOthers client old new × HasLeft client new
SeatsAfter old new (NoMemory client) = LeavesOthers client old new × HasLeft client new
SeatsAfter old new Nobody = LeavesAll old new

-- a seat, whatever its turn
abbrev pub but_turn : Seat → Seat
but_turn seat = record seat { route = None }

abbrev pub but_turn_in : Option Seat → Option Seat
but_turn_in None = None
but_turn_in (Some seat) = Some (but_turn seat)

-- each seat is as it was, but for its turn
abbrev pub KeepsSeats : Kept → Kept → Type 0
KeepsSeats old new = (k : ℕ) → but_turn_in (slice_get new.seats k) ≡ but_turn_in (slice_get old.seats k)

-- nothing becomes of others by what becomes of this client
abbrev pub IsAbout : ℕ → Kept → Kept → Type 0
IsAbout client old new =
    (c : ℕ) → c ≢ client → (IsHere old c ↔ IsHere new c) × (MayLeave new c → MayLeave old c)

-- nor of anybody
abbrev pub IsAboutNobody : Kept → Kept → Type 0
IsAboutNobody old new = (c : ℕ) → (IsHere old c ↔ IsHere new c) × (MayLeave new c → MayLeave old c)

-- The client keeps its seat, since it may not leave; or it may, and was let go.
abbrev pub IsLetGo : ℕ → Kept → Kept → Bool → Type 0
IsLetGo client old new true = (new ≡ old) × (MayLeave old client → ⊥)
IsLetGo client old new false = Follows old new (Closed client ∷ []) × IsForgotten new client
    × IsAbout client old new × HasLeft client new

-- What a reply does to seats, before who failed by it is let go.
abbrev pub IsAboutAnswer : Kept → Kept → Answer → Type 0
IsAboutAnswer old new (For client) =
    IsAbout client old new × IsHere new client × (MayLeave new client → ⊥)
IsAboutAnswer old new (Slow client) = IsAbout client old new × MayLeave new client
IsAboutAnswer old new (NoMemory client) = IsAbout client old new × MayLeave new client
IsAboutAnswer old new Nobody = IsAboutNobody old new
