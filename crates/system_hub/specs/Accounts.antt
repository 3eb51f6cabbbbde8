-- What a history says of one client.
use Rattle.std.specs.Prelude.{◌≡◌, ℕ, ◌+◌, ◌*◌, ◌%◌, ◌==◌, List, [], ◌∷◌, map, length, slice_index}
use Rattle.std.specs.List.{flat_map, filter}
use Rattle.system_hub.specs.Events.{Event, piece_in, payload_in, lane_in, written_in, opened_in, ended_in, failed_in, closed_in}
use Rattle.system_hub.specs.Lanes.{answers_at}

-- lists, one after another
abbrev pub joined : List (List ℕ) → List ℕ
joined pieces = flat_map (λ piece. piece) pieces

-- a lane's replies to a client's frames, in order
abbrev pub replies_to : (client lane : ℕ) → List Event → List (List ℕ)
replies_to client lane events =
    map (λ a. a.1) (filter (λ a. a.0 == client) (answers_at lane events))

-- those of the lane that takes its frames: the first of these lanes
abbrev pub replies_of : List ℕ → ℕ → List Event → List (List ℕ)
replies_of [] client events = []
replies_of (lane ∷ others) client events = replies_to client lane events

pub record Account : Type 0 where
  -- all bytes that came of it, and all bytes that were written to it
  pub received : List ℕ
  pub written : List ℕ
  -- the payloads of its frames that lanes took, in order, and by which lanes
  pub taken : List (List ℕ)
  pub lanes : List ℕ
  -- the replies to them, in order
  pub replies : List (List ℕ)
  -- how often it came, said its last, failed, and was let go
  pub comings : ℕ
  pub ends : ℕ
  pub failures : ℕ
  pub leavings : ℕ

unfoldable pub account_of : ℕ → List Event → Account
account_of client events = record {
  received = joined (flat_map (piece_in client) events);
  written = joined (flat_map (written_in client) events);
  taken = flat_map (payload_in client) events;
  lanes = flat_map (lane_in client) events;
  replies = replies_of (flat_map (lane_in client) events) client events;
  comings = length (flat_map (opened_in client) events);
  ends = length (flat_map (ended_in client) events);
  failures = length (flat_map (failed_in client) events);
  leavings = length (flat_map (closed_in client) events);
}

-- the account of a client of whom nothing was heard
abbrev pub nothing : Account
nothing = record {
  received = [];
  written = [];
  taken = [];
  lanes = [];
  replies = [];
  comings = 0;
  ends = 0;
  failures = 0;
  leavings = 0;
}

-- it came, and was not let go
pub record IsPresent (a : Account) : Type 0 where
  pub came : a.comings ≡ 1
  pub stays : a.leavings ≡ 0

-- and has not failed
pub record IsSound (a : Account) : Type 0 where
  pub present : IsPresent a
  pub sound : a.failures ≡ 0

-- and has not said its last
pub record IsOpen (a : Account) : Type 0 where
  pub sound : IsSound a
  pub goes_on : a.ends ≡ 0

-- the number of four bytes at this place of a payload, the highest first; a byte that it lacks is 0
abbrev pub number_at : ℕ → List ℕ → ℕ
number_at place payload =
    (slice_index payload (place + 0) * 256 + slice_index payload (place + 1)) * 65536
    + (slice_index payload (place + 2) * 256 + slice_index payload (place + 3))

-- the lane of who sends these payloads: the first one says it
abbrev pub lane_by : (place lanes : ℕ) → List (List ℕ) → ℕ
lane_by place lanes [] = 0
lane_by place lanes (first ∷ others) = number_at place first % lanes
