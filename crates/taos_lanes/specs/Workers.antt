-- A worker of a door's connections, by what it shows, from before to after each of its calls.
use Rattle.std.specs.Prelude.{◌≡◌, Option, Result}
use Rattle.frame_link.specs.Doors.{DoorSeen, GivesNext, TakesBack}
use Rattle.frame_link.specs.Faults.{HasCause}
use Rattle.frame_link.specs.Outside.{OutsideSeen, outside_of}
use Rattle.frame_link.specs.Relay.{Link}
use Rattle.frame_link.specs.Streams.{Stream}
use Rattle.cred_pull.specs.Fetching.{FetchSeen}
use Rattle.taos_monitor.specs.Reaching.{ReachSeen, reach_of}
use Rattle.taos_lanes.specs.declared.lane.Lane.{Lane}
use Rattle.taos_lanes.specs.declared.lane.Stock.{Stock}
use Rattle.taos_lanes.specs.declared.tally.Tally.{Tally}

-- a lane, as contracts see it: X is what its door gives
pub record LaneShown (X : Type 0) : Type 0 where
  -- its clock, and its link to the relay
  pub outside : OutsideSeen
  pub door : DoorSeen X
  -- from where certificates are fetched
  pub fetch : FetchSeen
  pub work : Option Stock
  -- what its worker counted as a relay
  pub tally : Tally

-- a lane, by what its clock, its link, its door and its fetch show
abbrev pub shown_by : {C R D P I O : Type 0} → (C → Stream) → (R → Link) →
    (D → DoorSeen (I × O)) → (P → FetchSeen) → Lane C R D P I O → LaneShown (I × O)
shown_by clock link door fetch lane = record {
  outside = outside_of (clock lane.clock) (link lane.relay);
  door = door lane.door;
  fetch = fetch lane.fetch;
  work = lane.work;
  tally = lane.tally;
}

-- what the requests of a worker reach
abbrev pub reach_in : {L X : Type 0} → (L → LaneShown X) → L → ReachSeen
reach_in shown lane = reach_of (shown lane).outside (shown lane).fetch

module _ {X : Type 0} (before after : LaneShown X) where
  -- it is as before, but for its work
  pub record HasOtherWork : Type 0 where
    pub outside : after.outside ≡ before.outside
    pub door : after.door ≡ before.door
    pub fetch : after.fetch ≡ before.fetch
    pub tally : after.tally ≡ before.tally

  -- it is as before, but for its door and for what it counted
  pub record HasOtherDoor : Type 0 where
    pub outside : after.outside ≡ before.outside
    pub fetch : after.fetch ≡ before.fetch
    pub work : after.work ≡ before.work

  -- its door was asked for the next connection, and answered or failed
  pub record Accepts {E : Type 0} (result : Result (Option X) E) : Type 0 where
    pub gives : GivesNext before.door after.door result
    pub back : after.door.back ≡ before.door.back
    pub cause : HasCause before.door.faults after.door.faults result
    pub tally : after.tally ≡ before.tally
    pub rest : HasOtherDoor

  -- its door took a connection back, and nothing else of the door changed
  pub record GivesBack (connection : X) : Type 0 where
    pub takes : TakesBack before.door after.door connection
    pub stays : after.door ≡ record before.door { back = after.door.back }
    pub tally : after.tally ≡ before.tally
    pub rest : HasOtherDoor

  -- this work is in its place, and what was there was handed out
  pub record Exchanges (work result : Option Stock) : Type 0 where
    pub gives : result ≡ before.work
    pub has : after.work ≡ work
    pub rest : HasOtherWork

  -- it keeps what it counted as a relay
  pub record Keeps (counted : Tally) : Type 0 where
    pub tally : after.tally ≡ counted
    pub door : after.door ≡ before.door
    pub rest : HasOtherDoor

-- nothing but what its requests reach was used: its door, its work and what it counted stay
pub record UsesReach {L D X : Type 0} (shown : L → LaneShown X) (its_door : L → D)
    (before after : L) : Type 0 where
  pub same_door : its_door after ≡ its_door before
  pub door : (shown after).door ≡ (shown before).door
  pub work : (shown after).work ≡ (shown before).work
  pub tally : (shown after).tally ≡ (shown before).tally
