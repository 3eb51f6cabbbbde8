-- Passes of a node's cells that go to lanes and come back.
use Rattle.std.specs.Prelude.{◌≡◌, ℕ, ◌+◌, List, [], ◌∷◌, filter_map, All, None, Some}
use Rattle.agent_core.specs.Journals.{MayFollow}
use Rattle.agent_shards.specs.Cells.{AreJoined}
use Rattle.agent_shards.specs.Shards.{ShardCell, KnownShard, ArePasses}
use Rattle.agent_shards.specs.Objects.{ObjectCell, KnownObject, AreObjectPasses}
use Rattle.agent_shards.specs.Room.{HasRoom}
use Rattle.turn_cell.specs.declared.shares.TheConstants.{ALL_SHARES}
use Rattle.turn_cell.specs.Known.{Known}
use Rattle.taos_lanes.specs.declared.lane.Stock.{Stock}
use Rattle.taos_lanes.specs.declared.serving.NewNode.{NewNode}
use Rattle.taos_lanes.specs.declared.total.Total.{Total}
use Rattle.taos_lanes.specs.Stocked.{NodeCells, IsStockOf, cells_of, node_at}
use Rattle.taos_lanes.specs.Totals.{IsSumOf}
use Rattle.taos_lanes.specs.Workers.{LaneShown, HasOtherWork}
use Rattle.request_course.specs.Cells.{Node}

-- passes of the shards and of the objects of a node
pub record NodePasses : Type 0 where
  pub shards : List KnownShard
  pub objects : List KnownObject

-- the passes of these
abbrev pub passes_of : List KnownShard → List KnownObject → NodePasses
passes_of shards objects = record { shards = shards; objects = objects }

-- they are of these cells
pub record ArePassesOf (cells : NodeCells) (passes : NodePasses) : Type 0 where
  pub shards : ArePasses cells.shards passes.shards
  pub objects : AreObjectPasses cells.objects passes.objects

-- nothing was seen, and nothing is own
abbrev pub AreFresh : {F E : Type 0} → List (Known F E) → Type 0
AreFresh {F} {E} passes = All (λ (p : Known F E). (p.seen ≡ []) × (p.own ≡ [])) passes

-- each pass has all shares but so many
abbrev pub HaveAllBut : {F E : Type 0} → ℕ → List (Known F E) → Type 0
HaveAllBut {F} {E} count passes = All (λ (p : Known F E). p.shares + count ≡ ALL_SHARES) passes

-- each pass has one share
abbrev pub HaveOne : {F E : Type 0} → List (Known F E) → Type 0
HaveOne {F} {E} passes = All (λ (p : Known F E). p.shares ≡ 1) passes

-- all that is not with so many others: fresh passes of these cells
pub record AreKept (cells : NodeCells) (count : ℕ) (passes : NodePasses) : Type 0 where
  pub of : ArePassesOf cells passes
  pub shards_fresh : AreFresh passes.shards
  pub objects_fresh : AreFresh passes.objects
  pub shards_left : HaveAllBut count passes.shards
  pub objects_left : HaveAllBut count passes.objects

-- a stock with one share of each cell
pub record HasOneShare (cells : NodeCells) (stock : Stock) : Type 0 where
  pub of : IsStockOf cells stock
  pub shards : HaveOne stock.passes
  pub objects : HaveOne stock.racked

-- and fresh passes
pub record IsFreshStock (cells : NodeCells) (stock : Stock) : Type 0 where
  pub one : HasOneShare cells stock
  pub shards_fresh : AreFresh stock.passes
  pub objects_fresh : AreFresh stock.racked

-- the passes of a stock were joined to others
pub record Joins (cells : NodeCells) (before after : NodePasses) (stock : Stock) : Type 0 where
  pub shards : AreJoined MayFollow cells.shards before.shards after.shards stock.passes
  pub objects : AreJoined HasRoom cells.objects before.objects after.objects stock.racked

-- the passes of these stocks were, one after the other
abbrev pub JoinsAll : NodeCells → NodePasses → List Stock → NodePasses → Type 0
JoinsAll cells before [] after = after ≡ before
JoinsAll cells before (stock ∷ stocks) after =
    (middle : NodePasses) × Joins cells before middle stock × JoinsAll cells middle stocks after

-- cells of values that were opened with empty journals
pub record AreNew (cells : NodeCells) : Type 0 where
  pub shards : All (λ (c : ShardCell). c.opening ≡ []) cells.shards
  pub objects : All (λ (c : ObjectCell). c.opening ≡ []) cells.objects

-- ---- a node at new cells

-- its cells
abbrev pub cells_by : NewNode → NodeCells
cells_by node = cells_of node.shards.0 node.objects.0

-- the passes of them
abbrev pub passes_by : NewNode → NodePasses
passes_by node = passes_of node.shards.1 node.objects.1

-- the node
abbrev pub node_by : NewNode → Node
node_by node = node_at node.keys (cells_by node)

-- ---- lanes

-- what a lane's work has in it is this
abbrev pub WorkIs : {X : Type 0} → (Stock → Type 0) → LaneShown X → Type 0
WorkIs is lane = (stock : Stock) × (lane.work ≡ Some stock) × is stock

-- the lane is as before, with a fresh stock of these cells
pub record IsGivenStock {X : Type 0} (cells : NodeCells) (before after : LaneShown X) : Type 0 where
  pub same : HasOtherWork before after
  pub work : WorkIs (IsFreshStock cells) after

-- the lane is as before, without its work
pub record IsEmptied {X : Type 0} (before after : LaneShown X) : Type 0 where
  pub same : HasOtherWork before after
  pub work : after.work ≡ None

-- the stocks of lanes, in order
abbrev pub stocks_in : {X : Type 0} → List (LaneShown X) → List Stock
stocks_in {X} lanes = filter_map (λ (lane : LaneShown X). lane.work) lanes

-- what all lanes counted
abbrev pub IsTotalOf : List Stock → Total → Type 0
IsTotalOf = IsSumOf (λ (s : Stock). s.tally)
