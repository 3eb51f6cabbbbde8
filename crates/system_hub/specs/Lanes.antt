-- What a history says of a lane.
use Rattle.std.specs.Prelude.{ℕ, ◌==◌, List, length, drop, count_by}
use Rattle.std.specs.List.{flat_map, zip}
use Rattle.system_hub.specs.Events.{Event, client_in, frame_in, reply_in}

-- the payloads that a lane took, in order
abbrev pub frames_at : ℕ → List Event → List (List ℕ)
frames_at lane events = flat_map (frame_in lane) events

-- whose they are, in the same order
abbrev pub clients_at : ℕ → List Event → List ℕ
clients_at lane events = flat_map (client_in lane) events

-- the replies that it gave, in order
abbrev pub replies_at : ℕ → List Event → List (List ℕ)
replies_at lane events = flat_map (reply_in lane) events

-- each reply beside the client to whose frame it is: the first to the first, and so on
abbrev pub answers_at : ℕ → List Event → List (ℕ × List ℕ)
answers_at lane events = zip (clients_at lane events) (replies_at lane events)

-- whose frames a lane has taken and not answered, in order
abbrev pub unanswered : ℕ → List Event → List ℕ
unanswered lane events = drop (length (replies_at lane events)) (clients_at lane events)

-- how often a client came to its turn at a lane
abbrev pub turns_of : (client lane : ℕ) → List Event → ℕ
turns_of client lane events = count_by (λ c. c == client) (clients_at lane events)
