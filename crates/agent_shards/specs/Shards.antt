-- Shards in cells, and a seat at them.
use Rattle.std.specs.Prelude.{ℕ, false, List, [], map, Option, None, Some, slice_get}
use Rattle.std.specs.List.{AllZip}
use Rattle.agent_core.specs.Journals.{Entry, ShardSeen, IsLegalJournal}
use Rattle.agent_core.specs.Shards.{ShardsSeen}
use Rattle.agent_core.specs.State.{Plan}
use Rattle.agent_core.specs.Steps.{JournalSeen}
use Rattle.turn_cell.specs.Known.{Cell, Known, IsPassOf}
use Rattle.agent_shards.specs.Cells.{IsClosed, IsOpened}
use Rattle.agent_shards.specs.Each.{Each3}

-- the cell of a shard: its fixed data are the plan
abbrev pub ShardCell : Type 0
ShardCell = Cell Plan Entry

-- a pass of such a cell
abbrev pub KnownShard : Type 0
KnownShard = Known Plan Entry

-- the plans of the shards, in order
abbrev pub plans_of : List ShardCell → List Plan
plans_of cells = map (λ (c : ShardCell). c.fixed) cells

-- the pass is of the cell, and what it has seen is legal
pub record IsShardPass (cell : ShardCell) (pass : KnownShard) : Type 0 where
  pub of_cell : IsPassOf cell pass
  pub legal : IsLegalJournal cell.fixed pass.seen

-- there is a pass of each shard, and no other
abbrev pub ArePasses : List ShardCell → List KnownShard → Type 0
ArePasses cells passes = AllZip IsShardPass cells passes

-- ---- the beginning and the end

-- a new cell of the shard, and its first pass
pub record IsShardOpened (shard : ShardSeen) (cell : ShardCell) (pass : KnownShard) : Type 0 where
  pub opened : IsOpened shard.plan shard.journal cell pass
  pub legal : IsLegalJournal shard.plan shard.journal

-- new cells of the shards, in order, and their first passes
abbrev pub AreShardsOpened : List ShardSeen → List ShardCell → List KnownShard → Type 0
AreShardsOpened shards cells passes = Each3 IsShardOpened shards cells passes

-- the shard that the closed cell gives, of its last pass
abbrev pub IsShardClosed : ShardCell → KnownShard → ShardSeen → Type 0
IsShardClosed cell pass shard = IsClosed cell pass shard.plan shard.journal

-- the shards that closed cells give, in order, of their last passes
abbrev pub AreShardsClosed : List ShardCell → List KnownShard → List ShardSeen → Type 0
AreShardsClosed cells passes shards = Each3 IsShardClosed cells passes shards

-- ---- a seat

-- a seat at shards, as contracts see it: the cells, and the passes that sit there, in order
pub record SeatSeen : Type 0 where
  pub cells : List ShardCell
  pub passes : List KnownShard

-- what a pass has seen, or nothing where there is none
abbrev pub journal_of : Option KnownShard → List Entry
journal_of None = []
journal_of (Some p) = p.seen

-- the own places of a pass, or none where there is none
abbrev pub places_of : Option KnownShard → List ℕ
places_of None = []
places_of (Some p) = p.own

-- what was seen of the shard of this number
abbrev pub journal_at : SeatSeen → ℕ → List Entry
journal_at s number = journal_of (slice_get s.passes number)

-- the own places in it
abbrev pub own_at : SeatSeen → ℕ → List ℕ
own_at s number = places_of (slice_get s.passes number)

-- what a pass tells of its shard, which others may step too
abbrev pub sight_of : KnownShard → JournalSeen
sight_of p = record { alone = false; journal = p.seen; own = p.own }

-- what is shown at a seat: others may step the shards too
abbrev pub seat_seen : SeatSeen → ShardsSeen
seat_seen s = record {
  plans = plans_of s.cells;
  alone = false;
  seen = λ number. journal_at s number;
  own = λ number. own_at s number;
}
