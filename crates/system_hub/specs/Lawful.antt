-- The law of a hub, of whatever happens at it.
use Rattle.std.specs.Prelude.{◌≡◌, ◌⊎◌, ℕ, ◌<◌, ◌≤◌, List, [], ◌∷◌, ◌++◌, length, All}
use Rattle.frame_link.specs.Frames.{framed, IsPart, IsTooLong, Splits}
use Rattle.frame_link.specs.declared.service.TheConstants.{MAX_PAYLOAD}
use Rattle.system_hub.specs.Events.{Event, Opened, Received, Ended, Failed, Took, Replied, Wrote, Closed}
use Rattle.system_hub.specs.Accounts.{Account, account_of, nothing, IsPresent, IsSound, IsOpen, lane_by}
use Rattle.system_hub.specs.Lanes.{clients_at, replies_at}
use Rattle.system_hub.specs.Fair.{Waits, IsFairNow}

-- xs is what ys begins with
abbrev pub Begins : {X : Type 0} → List X → List X → Type 0
Begins {X} xs ys = (rest : List X) × (ys ≡ xs ++ rest)

-- What a client may count on, whatever the others do. The place is where a payload has the number
-- that chooses one of so many lanes.
pub record IsServed (place lanes : ℕ) (a : Account) : Type 0 where
  -- The lanes took the frames that its bytes begin with: each once, whole, in order. No other list
  -- of payloads of that length does, since a frame says where it ends.
  pub taken : Begins (framed a.taken) a.received
  pub short : All (λ payload. length payload ≤ MAX_PAYLOAD) a.taken
  -- all of them by one lane
  pub one_lane : All (λ lane. lane ≡ lane_by place lanes a.taken) a.lanes
  -- it was written the replies to its own frames, in order, and no byte besides
  pub written : Begins a.written (framed a.replies)

-- what came of a client are these frames, whole and in order, and a rest that has none
abbrev pub HasFrames : Account → List (List ℕ) → List ℕ → Type 0
HasFrames a payloads rest = Splits MAX_PAYLOAD a.received payloads rest

-- Nothing more comes of a client: it said its last and has no whole frame left, or has a length
-- above the limit next. And each reply to its frames was written.
pub record IsThrough (a : Account) : Type 0 where
  pub rest : List ℕ
  pub bytes : a.received ≡ framed a.taken ++ rest
  pub no_more : (0 < a.ends) × IsPart MAX_PAYLOAD rest ⊎ IsTooLong MAX_PAYLOAD rest
  pub answered : length a.replies ≡ length a.taken
  pub written : a.written ≡ framed a.replies

-- When each event may happen, by what happened before it. A number is used for one client alone;
-- nothing happens to who was let go; a frame is taken of who waits; and who is let go failed, or is
-- through.
abbrev pub MayHappen : (place lanes : ℕ) → List Event → Event → Type 0
MayHappen place lanes before (Opened client) = account_of client before ≡ nothing
MayHappen place lanes before (Received client bytes) = IsOpen (account_of client before)
MayHappen place lanes before (Ended client) = IsOpen (account_of client before)
MayHappen place lanes before (Failed client) = IsPresent (account_of client before)
MayHappen place lanes before (Took lane client payload) =
    (w : Waits place lanes lane (account_of client before)) × (w.next ≡ payload)
MayHappen place lanes before (Replied lane payload) = Unit {0}
MayHappen place lanes before (Wrote client bytes) = IsSound (account_of client before)
MayHappen place lanes before (Closed client) = IsPresent (account_of client before)
    × ((0 < (account_of client before).failures) ⊎ IsThrough (account_of client before))

-- what holds when these events have happened
pub record IsLawfulNow (place lanes : ℕ) (events : List Event) : Type 0 where
  pub served : (client : ℕ) → IsServed place lanes (account_of client events)
  -- no lane has given more replies than it took frames
  pub answered : (lane : ℕ) → length (replies_at lane events) ≤ length (clients_at lane events)
  pub fair : IsFairNow place lanes events
  pub latest : (before : List Event) (event : Event) → events ≡ before ++ event ∷ [] →
      MayHappen place lanes before event

-- the law of a history: it holds at each moment
abbrev pub IsLawful : (place lanes : ℕ) → List Event → Type 0
IsLawful place lanes events = (before after : List Event) → events ≡ before ++ after →
    IsLawfulNow place lanes before
