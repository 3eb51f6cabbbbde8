-- Seats at an agent and a rack.
use Rattle.std.specs.Prelude.{◌≡◌, ℕ, List, Contains, Some, slice_get}
use Rattle.agent_core.specs.Journals.{Entry, IsMeant}
use Rattle.agent_core.specs.Plans.{home}
use Rattle.agent_core.specs.State.{Event, Plan}
use Rattle.agent_shards.specs.Cells.{HaveAll, shares_of}
use Rattle.agent_shards.specs.Objects.{AreObjectPasses, KnownObject, ObjectCell}
use Rattle.agent_shards.specs.Shards.{ArePasses, KnownShard, ShardCell}

-- the channel is in the plan of its shard
abbrev pub HasChannel : List Plan → ℕ → Type 0
HasChannel plans channel =
    (plan : Plan) → slice_get plans (home plans channel) ≡ Some plan →
    Contains plan.channels channel

-- the event may come at any time
abbrev pub IsAlwaysMeant : Event → Type 0
IsAlwaysMeant event = (plan : Plan) (before : List Entry) → IsMeant plan before event

-- the passes are those of the agent and of the rack
pub record AreAt (agent : List ShardCell) (rack : List ObjectCell) (passes : List KnownShard)
    (objects : List KnownObject) : Type 0 where
  pub at_agent : ArePasses agent passes
  pub at_rack : AreObjectPasses rack objects

-- they have the shares that others had
pub record HaveSharesOf (passes before : List KnownShard) (objects earlier : List KnownObject) :
    Type 0 where
  pub of_agent : shares_of passes ≡ shares_of before
  pub of_rack : shares_of objects ≡ shares_of earlier

-- they have all shares
pub record HaveAllShares (passes : List KnownShard) (objects : List KnownObject) : Type 0 where
  pub of_agent : HaveAll passes
  pub of_rack : HaveAll objects
