-- What a call touches, before it and after.
use Rattle.std.specs.Prelude.{ℕ, List, [], ◌∷◌, map, None}
use Rattle.frame_link.specs.Doors.{DoorSeen}
use Rattle.frame_link.specs.Relay.{Link, link}
use Rattle.frame_link.specs.Served.{Line, line}
use Rattle.frame_link.specs.Streams.{Stream, stream}
use Rattle.cred_pull.specs.Fetching.{FetchSeen, fetch_of}
use Rattle.taos_lanes.specs.declared.lane.Lane.{Lane}
use Rattle.taos_lanes.specs.Workers.{LaneShown, shown_by}
use Rattle.taos_monitor.specs.Changing.{Borrowed, Change, change}

-- what a connection of a lane uses beside its streams: the lane's clock, link and fetch
pub record LaneUsed : Type 0 where
  pub clock : Stream
  pub relay : Link
  pub fetch : FetchSeen

-- what contracts see of what a call touches; of its lanes, what a connection of the first uses
pub record Touched : Type 0 where
  pub file : Stream
  pub input : Stream
  pub output : Stream
  pub clock : Stream
  pub relay : Link
  pub fetch : FetchSeen

-- what is touched, of these
abbrev pub touched : Stream → Stream → Stream → LaneUsed → Touched
touched file input output lane = record {
  file = file;
  input = input;
  output = output;
  clock = lane.clock;
  relay = lane.relay;
  fetch = lane.fetch;
}

-- what a connection of the lane uses
abbrev pub used_of : {X : Type 0} → LaneShown X → LaneUsed
used_of lane =
    record { clock = lane.outside.clock; relay = lane.outside.link; fetch = lane.fetch }

-- what one of the first lane uses
abbrev pub first_of : {X : Type 0} → List (LaneShown X) → LaneUsed
first_of [] = record { clock = stream None 0; relay = link None 0 0; fetch = fetch_of None 0 }
first_of (lane ∷ lanes) = used_of lane

-- what the first lane's connection is served over, by what each of these shows
abbrev pub first_line : {I O L X : Type 0} → (I → Stream) → (O → Stream) → (L → LaneShown X) →
    I → O → List L → Line LaneUsed
first_line input output shown i o lanes =
    line (input i) (output o) (first_of (map shown lanes))

-- how often a lane's clock failed
abbrev pub clock_count : LaneUsed → ℕ
clock_count lane = lane.clock.faults

-- what is touched where this is served over, and there is this file
abbrev pub with_file : Stream → Line LaneUsed → Touched
with_file file l = touched file l.input l.output l.service

-- what a call touches, and what all of its lanes show
pub record Call (X : Type 0) : Type 0 where
  pub streams : Touched
  pub lanes : List (LaneShown X)

-- of these
abbrev pub over : {X : Type 0} → Touched → List (LaneShown X) → Call X
over streams lanes = record { streams = streams; lanes = lanes }

-- a call over these, by what each of them shows
abbrev pub called_by : {F I O L X : Type 0} → (F → Stream) → (I → Stream) → (O → Stream) →
    (L → LaneShown X) → F → I → O → List L → Call X
called_by file input output shown f i o lanes =
    over (touched (file f) (input i) (output o) (first_of (map shown lanes))) (map shown lanes)

-- the same, by what the clock, the link, the door and the fetch of each lane show
abbrev pub called : {F I O C R D P In Out : Type 0} → (F → Stream) → (I → Stream) → (O → Stream) →
    (C → Stream) → (R → Link) → (D → DoorSeen (In × Out)) → (P → FetchSeen) → F → I → O →
    List (Lane C R D P In Out) → Call (In × Out)
called file input output clock relay door fetch =
    called_by file input output (shown_by clock relay door fetch)

-- and how it changed what it borrows of these
abbrev pub call_over : {F I O C R D P In Out : Type 0} → (F → Stream) → (I → Stream) → (O → Stream) →
    (C → Stream) → (R → Link) → (D → DoorSeen (In × Out)) → (P → FetchSeen) →
    Borrowed F → Borrowed I → Borrowed O → Borrowed (List (Lane C R D P In Out)) → Change (Call (In × Out))
call_over file input output clock relay door fetch f i o lanes =
    let at = called file input output clock relay door fetch in
    change (at f.entry.now i.entry.now o.entry.now lanes.entry.now)
    (at f.exit.now i.exit.now o.exit.now lanes.exit.now)

-- what a call touches that serves doors and reads no input
pub record DoorsTouched (X : Type 0) : Type 0 where
  pub file : Stream
  pub output : Stream
  pub lanes : List (LaneShown X)

-- the same, by what each of these shows
abbrev pub doors_by : {F O L X : Type 0} → (F → Stream) → (O → Stream) → (L → LaneShown X) →
    F → O → List L → DoorsTouched X
doors_by file output shown f o lanes =
    record { file = file f; output = output o; lanes = map shown lanes }

-- the call, with this input
abbrev pub with_input : {X : Type 0} → Stream → DoorsTouched X → Call X
with_input input c = over (touched c.file input c.output (first_of c.lanes)) c.lanes
