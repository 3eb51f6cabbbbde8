-- What a worker did at seats, by the passes that sat there and rose.
use Rattle.std.proofs.Common.{◌≡◌, ℕ, Bool, List, None, subst, sym}
use Rattle.frame_link.specs.Doors.{DoorSeen}
use Rattle.frame_link.specs.Lent.{Lent, Nothing, To, Both}
use Rattle.agent_shards.specs.Shards.{ShardCell, KnownShard, SeatSeen, journal_at, own_at, plans_of}
use Rattle.agent_shards.specs.Objects.{ObjectCell, KnownObject, RackSeen, seen_on, own_on, fixed_in}
use Rattle.frame_link.specs.declared.limits.Limits.{Limits}
use Rattle.frame_link.specs.Outside.{OutsideSeen}
use Rattle.cred_pull.specs.Fetching.{FetchSeen}
use Rattle.taos_monitor.specs.declared.node_keys.NodeKeys.{NodeKeys}
use Rattle.taos_monitor.specs.Arriving.{node_of}
use Rattle.request_course.specs.Cells.{viewed}
use Rattle.request_course.specs.World.{World, fetch_use, reaching}
use Rattle.taos_lanes.specs.declared.lane.Stock.{Stock}
use Rattle.taos_lanes.specs.declared.tally.Tally.{Tally}
use Rattle.taos_monitor.specs.Changing.{change}
use Rattle.taos_lanes.specs.Telling.{Telling}
use Rattle.taos_lanes.specs.Workers.{LaneShown, HasOtherWork}
use Rattle.taos_lanes.specs.Working.{LaneSeen, ServesDoor, lane_of}
use Rattle.taos_lanes.specs.Stocked.{NodeCells, node_at, seat, shelf, world_at}

-- a seat is what it has
pub seat_is : (s : SeatSeen) (cells : List ShardCell) (passes : List KnownShard) → s.cells ≡ cells → s.passes ≡ passes → s ≡ seat cells passes
seat_is s cells passes c p i = seat (c i) (p i)

pub shelf_is : (h : RackSeen) (cells : List ObjectCell) (passes : List KnownObject) → h.cells ≡ cells → h.passes ≡ passes → h.taken ≡ None → h ≡ shelf cells passes
shelf_is h cells passes c p t i = record { cells = c i; passes = p i; taken = t i }

module _ {In Out : Type 0} (telling : Telling In Out) (keys : NodeKeys) (pulls : Bool) (limits : Limits) where
  -- a lane that sits there
  abbrev sits : OutsideSeen × FetchSeen → SeatSeen × RackSeen → DoorSeen (In × Out) → LaneSeen World (In × Out)
  sits reach at door = lane_of (reaching reach.0 (fetch_use pulls reach.1) (viewed (λ n. journal_at at.0 n) (λ n. own_at at.0 n)) (viewed (λ n. seen_on at.1 n) (λ n. own_on at.1 n))) door

  abbrev At : Type 0
  At = (OutsideSeen × FetchSeen) × (SeatSeen × RackSeen) × DoorSeen (In × Out)

  abbrev ServesAt : Tally → (before after : At) → Type 0
  ServesAt tally b a =
      ServesDoor telling (node_of keys (plans_of b.1.0.cells) (fixed_in b.1.1.cells)) limits (change (sits b.0 b.1 b.2) (sits a.0 a.1 a.2)) tally

  -- what it did there it did from the stock that it had to the one that it has
  pub serves_at : (before taken served after : LaneShown (In × Out)) (tally : Tally) (s t : SeatSeen) (h k : RackSeen) (cells : NodeCells) (old new : Stock) →
      HasOtherWork before taken → HasOtherWork served after →
      s ≡ seat cells.shards old.passes → t ≡ seat cells.shards new.passes → h ≡ shelf cells.objects old.racked → k ≡ shelf cells.objects new.racked →
      ServesDoor telling (node_of keys (plans_of s.cells) (fixed_in h.cells)) limits (change (sits (taken.outside, taken.fetch) (s, h) taken.door) (sits (served.outside, served.fetch) (t, k) served.door)) tally →
      ServesDoor telling (node_at keys cells) limits
      (change (lane_of (world_at cells before.outside (fetch_use pulls before.fetch) old) before.door) (lane_of (world_at cells after.outside (fetch_use pulls after.fetch) new) after.door)) tally
  serves_at before taken served after tally s t h k cells old new had has sat rose shelved gone serves =
      subst (λ (x : At × At). ServesAt tally x.0 x.1)
      (λ i. (((had.outside i, had.fetch i), (sat i, shelved i), had.door i), ((sym has.outside i, sym has.fetch i), (rose i, gone i), sym has.door i))) serves

-- ---- what a desk and a lane lent is back

-- the desk's cells, and what it opens by, name by name
pub desk_lent : (a b c p q r : ℕ) → Both (Both (Both (To a Nothing) (To b Nothing)) (To c Nothing)) Nothing ≡ Both (Both (Both (To p Nothing) (To q Nothing)) (To r Nothing)) Nothing → (a ≡ p) × (b ≡ q) × (c ≡ r)
desk_lent a b c p q r same = (cc, cc, cc)

-- what the desk lent, beside what was lent for its requests
pub first_lent : (d e l m : Lent) → Both d l ≡ Both e m → d ≡ e
first_lent d e l m same = cc
