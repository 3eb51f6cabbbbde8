-- What a node answers by, and what that shows.
use Rattle.std.specs.Prelude.{◌≡◌, None}
use Rattle.frame_link.specs.Lent.{Lent, Nothing, To, Both}
use Rattle.frame_link.specs.Outside.{outside_of}
use Rattle.frame_link.specs.Relay.{Link}
use Rattle.frame_link.specs.Served.{Line, line}
use Rattle.frame_link.specs.Streams.{Stream}
use Rattle.object_core.specs.Shelving.{ShelfSeen}
use Rattle.agent_core.specs.Shards.{ShardsSeen}
use Rattle.taos_monitor.specs.declared.desk.Desk.{Desk}
use Rattle.taos_monitor.specs.declared.node_keys.NodeKeys.{NodeKeys}
use Rattle.taos_monitor.specs.Changing.{Borrowed, Change, change}
use Rattle.taos_monitor.specs.Reaching.{ReachSeen}
use Rattle.request_course.specs.World.{Setting, State, World, fetch_use, reaching_by, state_of, state_with, world_by, setting_of}
use Rattle.taos_monitor.specs.Arriving.{node_of}
use Rattle.request_course.specs.Cells.{alone_of}

-- ---- a desk

-- what stays, by these keys and what is shown of the shards and of the objects
abbrev pub setting_by : NodeKeys → ShardsSeen → ShelfSeen → Setting
setting_by keys shards shelf =
    setting_of (node_of keys shards.plans shelf.objects) (alone_of shards.alone shelf.alone)

-- what stays while it answers
abbrev pub setting_at : {S H D : Type 0} → (S → ShardsSeen) → (H → ShelfSeen) → Desk S H D → Setting
setting_at shards shelf d = setting_by d.keys.now (shards d.shards.now) (shelf d.shelf.now)

-- what it changes by that, with what it reaches
abbrev pub world_at : {S H D : Type 0} → (S → ShardsSeen) → (H → ShelfSeen) → Desk S H D → ReachSeen → World
world_at shards shelf d reach =
    reaching_by reach.outside (fetch_use d.pulls reach.fetch)
    (shards d.shards.now) (shelf d.shelf.now)

-- what it borrows, whose owner is to know what became of that
abbrev pub lent_by : {S H D : Type 0} → Desk S H D → Lent
lent_by d =
    Both (Both (To d.shards.ghost_name Nothing) (To d.shelf.ghost_name Nothing))
    (To d.opened.ghost_name Nothing)

-- what it answers in
abbrev pub state_at : {S H D X : Type 0} → (S → ShardsSeen) → (H → ShelfSeen) → (X → ReachSeen) →
    Desk S H D → X → State
state_at shards shelf reach d x =
    state_with (setting_at shards shelf d) (world_at shards shelf d (reach x))
    (Both (lent_by d) (reach x).lent)

-- a connection of these, with a desk and what it reaches
abbrev pub line_at : {S H D X I O : Type 0} → (S → ShardsSeen) → (H → ShelfSeen) → (X → ReachSeen) →
    (I → Stream) → (O → Stream) → Desk S H D → X → I → O → Line State
line_at shards shelf reach input output d x i o =
    line (input i) (output o) (state_at shards shelf reach d x)

-- nothing keeps it from answering: what it opens by is the node's key, and no object is taken
pub record IsFree {S H D : Type 0} (shelf : H → ShelfSeen) (d : Desk S H D) : Type 0 where
  pub key : d.opened.now ≡ d.keys.now.relay_key
  pub none_taken : (shelf d.shelf.now).taken ≡ None

-- ---- the same of parts that stand apart, where nothing is fetched

-- what is answered in, by these keys and what is shown of the cells, the clock and the link
abbrev pub state_by : {S H C R : Type 0} → NodeKeys → (S → ShardsSeen) → (H → ShelfSeen) →
    (C → Stream) → (R → Link) → S → H → C → R → State
state_by keys shards shelf clock relay s h c r =
    state_of (setting_by keys (shards s) (shelf h))
    (world_by (outside_of (clock c) (relay r)) (shards s) (shelf h))

-- a connection of these
abbrev pub line_by : {S H C R I O : Type 0} → NodeKeys → (S → ShardsSeen) → (H → ShelfSeen) →
    (C → Stream) → (R → Link) → (I → Stream) → (O → Stream) → S → H → C → R → I → O → Line State
line_by keys shards shelf clock relay input output s h c r i o =
    line (input i) (output o) (state_by keys shards shelf clock relay s h c r)

-- ---- and how a call changed it that borrows these parts

-- what is answered in
abbrev pub state_over : {S H C R : Type 0} → NodeKeys → (S → ShardsSeen) → (H → ShelfSeen) →
    (C → Stream) → (R → Link) → Borrowed S → Borrowed H → Borrowed C → Borrowed R → Change State
state_over keys shards shelf clock relay s h c r =
    let at = state_by keys shards shelf clock relay in
    change (at s.entry.now h.entry.now c.entry.now r.entry.now)
    (at s.exit.now h.exit.now c.exit.now r.exit.now)

-- a connection
abbrev pub line_over : {S H C R I O : Type 0} → NodeKeys → (S → ShardsSeen) → (H → ShelfSeen) →
    (C → Stream) → (R → Link) → (I → Stream) → (O → Stream) →
    Borrowed S → Borrowed H → Borrowed C → Borrowed R → Borrowed I → Borrowed O → Change (Line State)
line_over keys shards shelf clock relay input output s h c r i o =
    let at = line_by keys shards shelf clock relay input output in
    change (at s.entry.now h.entry.now c.entry.now r.entry.now i.entry.now o.entry.now)
    (at s.exit.now h.exit.now c.exit.now r.exit.now i.exit.now o.exit.now)
