-- Whose sockets there are: those of who sits.
use Rattle.std.specs.Prelude.{◌≡◌, ◌↔◌, ◌%◌, Bool, true, false, ℕ, List, length, Option, None, Some, MatchOption}
use Rattle.std.specs.List.{slice_get}
use Rattle.system_hub.specs.Events.{Event}
use Rattle.system_hub.specs.Kept.{Kept, IsHere, IsKeptOf}
use Rattle.system_hub.specs.Seating.{AreSettled, HasLeft, LeavesOthers}
use Rattle.system_hub.specs.declared.client.Client.{Client}
use Rattle.system_hub.specs.declared.client.Moved.{Moved}
use Rattle.system_hub.specs.declared.client.Moved.TheVariants.{More, Enough, Left}

-- some history left this hub, so the law of hubs holds of all that happened at it
abbrev pub HasHistory : Kept → Type 0
HasHistory hub = (events : List Event) × IsKeptOf events hub

-- the socket of a client lies at the place of its seat
abbrev pub HasSocket : List (Option Client) → ℕ → Type 0
HasSocket clients number = MatchOption (slice_get clients (number % length clients)) ⊥
    (λ place. MatchOption place ⊥ (λ client. client.number ≡ number))

-- no client's socket is open
abbrev pub HasNoSocket : List (Option Client) → Type 0
HasNoSocket clients = (k : ℕ) (client : Client) → slice_get clients k ≡ Some (Some client) → ⊥

-- A hub and sockets. No seat is kept by who failed or is through; who has a seat has its socket at the
-- seat's place, and no socket is there but of who has a seat.
pub record IsFloor (hub : Kept) (clients : List (Option Client)) : Type 0 where
  pub history : HasHistory hub
  pub settled : AreSettled hub
  pub size : length clients ≡ length hub.seats
  pub places : (k : ℕ) (client : Client) → slice_get clients k ≡ Some (Some client) →
      client.number % length clients ≡ k
  pub sockets : (number : ℕ) → (IsHere hub number ↔ HasSocket clients number)

-- the client keeps its seat, or has left it
abbrev pub KeepsSeat : ℕ → Kept → Bool → Type 0
KeepsSeat number hub true = IsHere hub number
KeepsSeat number hub false = HasLeft number hub

-- What becomes of a hub by what is done with one client.
pub record IsDoneSoFar (number : ℕ) (old new : Kept) : Type 0 where
  pub history : HasHistory old → HasHistory new
  pub size : length new.seats ≡ length old.seats
  pub others : LeavesOthers number old new

-- and whether it has its seat then
pub record IsDoneWith (number : ℕ) (old new : Kept) (stays : Bool) : Type 0 where
  pub done : IsDoneSoFar number old new
  pub seat : KeepsSeat number new stays

-- and so by a read or a write
abbrev pub IsMoved : ℕ → Kept → Kept → Moved → Type 0
IsMoved number old new More = IsDoneWith number old new true
IsMoved number old new Enough = IsDoneWith number old new true
IsMoved number old new Left = IsDoneWith number old new false
