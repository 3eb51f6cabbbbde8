-- What requests are answered in: what stays as it is, and what an answer may change.
use Rattle.std.specs.Prelude.{ℕ, Bool, false, None}
use Rattle.frame_link.specs.Lent.{Lent, Nothing}
use Rattle.frame_link.specs.Outside.{OutsideSeen}
use Rattle.object_core.specs.Objects.{ObjectEntry}
use Rattle.object_core.specs.Shelving.{ShelfSeen}
use Rattle.agent_core.specs.Journals.{Entry}
use Rattle.agent_core.specs.Shards.{ShardsSeen}
use Rattle.cred_pull.specs.Fetching.{FetchSeen, fetch_of}
use Rattle.request_course.specs.Cells.{Node, Cell, Seen, Viewed, objects_in, seen_of, shards_in}

-- what stays as it is while a node answers
pub record Setting : Type 0 where
  pub node : Node
  -- whether nobody else steps the cell
  pub alone : Cell → Bool

-- what stays, of these
abbrev pub setting_of : Node → (Cell → Bool) → Setting
setting_of node alone = record { node = node; alone = alone }

-- a fetch, and the use that is made of it
pub record FetchUse : Type 0 where
  -- whether certificates are fetched for each request that is under its channel's seal
  pub pulls : Bool
  pub seen : FetchSeen

-- a fetch with this use
abbrev pub fetch_use : Bool → FetchSeen → FetchUse
fetch_use pulls seen = record { pulls = pulls; seen = seen }

-- nothing is fetched, and there is nothing to fetch from
abbrev pub no_fetch : FetchUse
no_fetch = fetch_use false (fetch_of None 0)

-- what an answer may change, as contracts see it
pub record World : Type 0 where
  -- the clock, and the link to the relay
  pub outside : OutsideSeen
  -- from where certificates are fetched; the use that is made of it stays
  pub fetch : FetchUse
  -- the journals of the shards and of the objects, and the own places in them
  pub seen : Seen

-- what may change, of these
abbrev pub reaching : OutsideSeen → FetchUse → Viewed Entry → Viewed ObjectEntry → World
reaching outside fetch shards objects =
    record { outside = outside; fetch = fetch; seen = seen_of shards objects }

-- the same, where nothing is fetched
abbrev pub world_of : OutsideSeen → Viewed Entry → Viewed ObjectEntry → World
world_of outside shards objects = reaching outside no_fetch shards objects

-- what may change, by what is shown of the shards and of the objects
abbrev pub reaching_by : OutsideSeen → FetchUse → ShardsSeen → ShelfSeen → World
reaching_by outside fetch shards shelf =
    reaching outside fetch (shards_in shards) (objects_in shelf)

-- the same, where nothing is fetched
abbrev pub world_by : OutsideSeen → ShardsSeen → ShelfSeen → World
world_by outside shards shelf = world_of outside (shards_in shards) (objects_in shelf)

-- the same world, where nothing is fetched
abbrev pub plainly : World → World
plainly w = record { outside = w.outside; fetch = no_fetch; seen = w.seen }

-- what stays, and what an answer may change
pub record State : Type 0 where
  pub setting : Setting
  pub world : World
  -- what is borrowed for it, which stays too
  pub lent : Lent

-- a state of these
abbrev pub state_with : Setting → World → Lent → State
state_with setting world lent = record { setting = setting; world = world; lent = lent }

-- the same, where nothing is borrowed
abbrev pub state_of : Setting → World → State
state_of setting world = state_with setting world Nothing

-- how often the clock has failed
abbrev pub clock_faults : World → ℕ
clock_faults w = w.outside.clock.faults
