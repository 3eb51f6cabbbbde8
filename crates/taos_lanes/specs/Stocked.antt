-- A lane with passes of a node's cells, and what its worker does with them.
use Rattle.std.specs.Prelude.{◌≡◌, ℕ, Bool, List, Option, None, Some}
use Rattle.frame_link.specs.Outside.{OutsideSeen}
use Rattle.agent_core.specs.Journals.{Entry}
use Rattle.agent_shards.specs.Cells.{shares_of}
use Rattle.agent_shards.specs.Shards.{ShardCell, KnownShard, ArePasses, SeatSeen, journal_at, own_at, plans_of}
use Rattle.agent_shards.specs.Objects.{ObjectCell, KnownObject, AreObjectPasses, RackSeen, seen_on, own_on, fixed_in}
use Rattle.object_core.specs.Objects.{ObjectEntry}
use Rattle.frame_link.specs.declared.limits.Limits.{Limits}
use Rattle.taos_lanes.specs.declared.lane.Stock.{Stock}
use Rattle.taos_lanes.specs.declared.sitting.Shared.{Shared}
use Rattle.taos_monitor.specs.Changing.{change}
use Rattle.taos_lanes.specs.Telling.{Telling}
use Rattle.taos_lanes.specs.Workers.{LaneShown}
use Rattle.taos_lanes.specs.Working.{ServesDoor, lane_of}
use Rattle.taos_monitor.specs.declared.node_keys.NodeKeys.{NodeKeys}
use Rattle.taos_monitor.specs.Arriving.{node_of}
use Rattle.request_course.specs.Cells.{Node, Viewed, viewed}
use Rattle.request_course.specs.World.{World, FetchUse, fetch_use, reaching}

-- the cells of a node's shards and of its objects
pub record NodeCells : Type 0 where
  pub shards : List ShardCell
  pub objects : List ObjectCell

-- the cells of these
abbrev pub cells_of : List ShardCell → List ObjectCell → NodeCells
cells_of shards objects = record { shards = shards; objects = objects }

-- the cells at which all workers sit
abbrev pub cells_shared : {W K L : Type 0} → Shared W K L → NodeCells
cells_shared shared = cells_of shared.agent.now shared.rack.now

-- the node of these keys at these cells
abbrev pub node_at : NodeKeys → NodeCells → Node
node_at keys cells = node_of keys (plans_of cells.shards) (fixed_in cells.objects)

-- a seat at shards with these passes
abbrev pub seat : List ShardCell → List KnownShard → SeatSeen
seat cells passes = record { cells = cells; passes = passes }

-- a seat at objects with these passes, where no object is taken
abbrev pub shelf : List ObjectCell → List KnownObject → RackSeen
shelf cells passes = record { cells = cells; passes = passes; taken = None }

-- what passes have seen of the shards, and their own places
abbrev pub shards_viewed : List ShardCell → List KnownShard → Viewed Entry
shards_viewed cells passes = viewed (journal_at (seat cells passes)) (own_at (seat cells passes))

-- what passes have seen of the objects, and their own places
abbrev pub objects_viewed : List ObjectCell → List KnownObject → Viewed ObjectEntry
objects_viewed cells passes = viewed (seen_on (shelf cells passes)) (own_on (shelf cells passes))

-- what a lane with this stock answers in
abbrev pub world_at : NodeCells → OutsideSeen → FetchUse → Stock → World
world_at cells outside fetch stock =
    reaching outside fetch (shards_viewed cells.shards stock.passes)
    (objects_viewed cells.objects stock.racked)

-- the passes of the stock are of these cells
pub record IsStockOf (cells : NodeCells) (stock : Stock) : Type 0 where
  pub shards : ArePasses cells.shards stock.passes
  pub objects : AreObjectPasses cells.objects stock.racked

-- there is a stock of these cells, with so many shares of each shard and of each object
pub record IsStocked (cells : NodeCells) (shards objects : List ℕ) (work : Option Stock) :
    Type 0 where
  pub stock : Stock
  pub is : work ≡ Some stock
  pub of : IsStockOf cells stock
  pub shards_shared : shares_of stock.passes ≡ shards
  pub objects_shared : shares_of stock.racked ≡ objects

-- the two have as many shares of each cell
pub record HaveSameShares (before after : Stock) : Type 0 where
  pub shards : shares_of after.passes ≡ shares_of before.passes
  pub objects : shares_of after.racked ≡ shares_of before.racked

-- The lane served connections of its door at the cells, from what its passes had seen before to what
-- they have seen now, with as many shares.
pub record ServesLane {In Out : Type 0} (telling : Telling In Out) (keys : NodeKeys)
    (cells : NodeCells) (pulls : Bool) (limits : Limits) (before after : LaneShown (In × Out)) :
    Type 0 where
  pub old : Stock
  pub new : Stock
  pub had : before.work ≡ Some old
  pub has : after.work ≡ Some new
  pub of : IsStockOf cells new
  pub shares : HaveSameShares old new
  pub serves : ServesDoor telling (node_at keys cells) limits
      (change (lane_of (world_at cells before.outside (fetch_use pulls before.fetch) old) before.door)
      (lane_of (world_at cells after.outside (fetch_use pulls after.fetch) new) after.door)) new.tally

-- the same by what all workers share
abbrev pub ServesLaneBy : {W K L In Out : Type 0} → Shared W K L → Telling In Out →
    (before after : LaneShown (In × Out)) → Type 0
ServesLaneBy shared telling =
    ServesLane telling shared.keys.now (cells_shared shared) shared.pulls shared.limits
