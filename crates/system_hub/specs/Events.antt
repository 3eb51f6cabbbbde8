-- What happens at a hub: a history is a list of events, the first that happened first.
use Rattle.std.specs.Prelude.{ℕ, ◌==◌, if◌then◌else◌, List, [], ◌∷◌}

-- a client goes by a number that no other client of the history has, a lane by its place
pub data Event : Type 0 where
  -- the client came
  Opened : (client : ℕ) → Event
  -- these bytes came of it
  Received : (client : ℕ) (bytes : List ℕ) → Event
  -- it said its last: no more bytes come of it
  Ended : (client : ℕ) → Event
  -- it failed, was too late, or there was no memory for what it sent or is to get
  Failed : (client : ℕ) → Event
  -- the lane was given this frame of the client
  Took : (lane client : ℕ) (payload : List ℕ) → Event
  -- the lane gave this reply to the first of its frames that had none
  Replied : (lane : ℕ) (payload : List ℕ) → Event
  -- these bytes were written to the client
  Wrote : (client : ℕ) (bytes : List ℕ) → Event
  -- the client was let go
  Closed : (client : ℕ) → Event

-- x where two numbers are one, and nothing else
abbrev pub only : {X : Type 0} → ℕ → ℕ → X → List X
only m n x = if m == n then x ∷ [] else []

-- the pieces that an event has of a client's bytes
abbrev pub piece_in : ℕ → Event → List (List ℕ)
piece_in client (Received c bytes) = only c client bytes
piece_in client _ = []

-- the payload that an event has of a client
abbrev pub payload_in : ℕ → Event → List (List ℕ)
payload_in client (Took lane c payload) = only c client payload
payload_in client _ = []

-- the lane that an event has of a client
abbrev pub lane_in : ℕ → Event → List ℕ
lane_in client (Took lane c payload) = only c client lane
lane_in client _ = []

-- the client whose frame a lane took by an event
abbrev pub client_in : ℕ → Event → List ℕ
client_in lane (Took l client payload) = only l lane client
client_in lane _ = []

-- the payload that a lane took by an event
abbrev pub frame_in : ℕ → Event → List (List ℕ)
frame_in lane (Took l client payload) = only l lane payload
frame_in lane _ = []

-- the reply that a lane gave by an event
abbrev pub reply_in : ℕ → Event → List (List ℕ)
reply_in lane (Replied l payload) = only l lane payload
reply_in lane _ = []

-- the pieces that an event has of what was written to a client
abbrev pub written_in : ℕ → Event → List (List ℕ)
written_in client (Wrote c bytes) = only c client bytes
written_in client _ = []

-- that an event is a client's coming, its end, its failing, or its being let go
abbrev pub opened_in : ℕ → Event → List ℕ
opened_in client (Opened c) = only c client c
opened_in client _ = []

abbrev pub ended_in : ℕ → Event → List ℕ
ended_in client (Ended c) = only c client c
ended_in client _ = []

abbrev pub failed_in : ℕ → Event → List ℕ
failed_in client (Failed c) = only c client c
failed_in client _ = []

abbrev pub closed_in : ℕ → Event → List ℕ
closed_in client (Closed c) = only c client c
closed_in client _ = []
