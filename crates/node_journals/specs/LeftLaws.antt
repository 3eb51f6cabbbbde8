-- What the laws of replays say.
use Rattle.std.specs.Prelude.{◌≡◌, ℕ, true, List, All}
use Rattle.frame_link.specs.declared.outcome.Outcome.{Outcome}
use Rattle.frame_link.specs.Served.{Line}
use Rattle.object_core.specs.Objects.{ObjectEntry}
use Rattle.object_core.specs.Operation.{FitsOperation}
use Rattle.object_core.specs.Shelving.{HaveOwnNumbers}
use Rattle.agent_core.specs.Journals.{Entry}
use Rattle.journal_bytes.specs.Limits.{AsksWithinOf, CitesFewOf, Spells}
use Rattle.audit_replay.specs.Legal.{AreLegal, AreRuled}
use Rattle.audit_replay.specs.Replays.{AreReplayed, IsReplayed, entries_in}
use Rattle.audit_replay.specs.declared.replayed.Replayed.{Replayed}
use Rattle.taos_lanes.specs.Lanes.{LaneRun, ServesAll}
use Rattle.request_course.specs.Cells.{Node, Journals, alone_of, no_entries}
use Rattle.request_course.specs.Connection.{IsConnection}
use Rattle.request_course.specs.World.{World, setting_of}
use Rattle.taos_lanes.specs.Opened.{HasFewCommons, HasFittingList}
use Rattle.node_journals.specs.Left.{cells_in, journals_left, objects_of, shards_left}

-- the node served from empty journals on, and left these
pub data HasServed (n : Node) (J : Journals) : Type 0 where
  -- lanes side by side
  lanes : {limit : ℕ} (runs : List (LaneRun n limit)) → ServesAll J runs → HasServed n J
  -- one connection, and nobody else stepped a cell
  alone : {limit : ℕ} {before after : Line World} {outcome : Outcome} →
      IsConnection (setting_of n (alone_of true true)) limit before after outcome →
      before.service.seen.journals ≡ no_entries → after.service.seen.journals ≡ J →
      HasServed n J

-- the journals are legal beside the cells of the node
pub record AreLegalBeside (n : Node) (J : Journals) : Type 0 where
  pub shards : AreLegal n.plans (shards_left n J)
  pub objects : AreRuled (cells_in n) (shards_left n J) (objects_of J n.objects)

-- the journals come to so many legal entries, and so do all bytes that spell them
pub record AreReplayedLegal (n : Node) (J : Journals) : Type 0 where
  pub journals : AreReplayed (cells_in n) (journals_left n J)
      (Replayed.Legal (entries_in (journals_left n J)))
  pub spelled : (bytes : List ℕ) → Spells (journals_left n J) bytes →
      IsReplayed (cells_in n) bytes (Replayed.Legal (entries_in (journals_left n J)))

-- the journals can be spelled: no proof in them cites too much, and each operation is within the
-- limits
pub record AreWritable (J : Journals) : Type 0 where
  pub cites : (s : ℕ) → All (λ (e : Entry). CitesFewOf e.event) (J.shards s)
  pub ops : (o : ℕ) → All (λ (e : ObjectEntry). FitsOperation e.op) (J.objects o)

-- what each Ask in the journals carries is within the limits
abbrev pub AreAsksWithin : Journals → Type 0
AreAsksWithin J = (s : ℕ) → All (λ (e : Entry). AsksWithinOf e.event) (J.shards s)

-- so are the journals that a node left whose objects have numbers of their own
abbrev pub LeavesLegal : Node → Type 0
LeavesLegal n =
    HaveOwnNumbers n.objects → (J : Journals) → HasServed n J → AreLegalBeside n J

abbrev pub LeavesReplayed : Node → Type 0
LeavesReplayed n =
    HaveOwnNumbers n.objects → (J : Journals) → HasServed n J → AreReplayedLegal n J

-- and those that one left whose shards were opened with few commons
abbrev pub LeavesWritable : Node → Type 0
LeavesWritable n =
    All HasFewCommons n.plans → (J : Journals) → HasServed n J → AreWritable J

-- and so were the objects whose lists were asked by
abbrev pub LeavesAsksWithin : Node → Type 0
LeavesAsksWithin n =
    All HasFewCommons n.plans → All HasFittingList n.objects → (J : Journals) → HasServed n J →
    AreAsksWithin J
