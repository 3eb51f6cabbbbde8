-- What the laws of drills say.
use Rattle.std.specs.Prelude.{◌≡◌, ℕ, ◌<◌, List, map}
use Rattle.std.specs.List.{AllZip, range_with_len}
use Rattle.shard_core.specs.Alone.{plans_in}
use Rattle.agent_core.specs.Journals.{ShardSeen}
use Rattle.object_core.specs.Objects.{ObjectSeen}
use Rattle.object_core.specs.Shelving.{fixed_of}
use Rattle.node_journals.specs.Load.{IsLoadJournal}
use Rattle.node_commands.specs.Words.{DrillWords}
use Rattle.taos_lanes.specs.Lanes.{LaneRun, ServesAll}
use Rattle.taos_lanes.specs.Serving.{journals_of}
use Rattle.request_course.specs.Cells.{Node, Journals}
use Rattle.node_journals.specs.Counts.{CountsLoad}
use Rattle.node_journals.specs.Lanes.{AnswersLane}
use Rattle.node_journals.specs.Requests.{FitsDrill, IsLoadNode, channels_of, load_plan}

-- where the lanes of a node answered the load, and memory was not refused, the journal of each
-- shard is that of a load
abbrev pub ShardsHaveLoads : DrillWords → Node → ℕ → Type 0
ShardsHaveLoads d n limit =
    FitsDrill d → IsLoadNode d n →
    (J : Journals) (runs : List (LaneRun n limit)) → ServesAll J runs →
    AllZip (AnswersLane d) (range_with_len 0 d.lanes) runs →
    (s : ℕ) → s < 4 → IsLoadJournal (load_plan d (channels_of n) s) (J.shards s)

-- where the lanes of a node answered the load, and memory was not refused, the journals of its
-- shards and objects count it so
abbrev pub LoadIsCounted : DrillWords → Node → ℕ → Type 0
LoadIsCounted d n limit =
    FitsDrill d → IsLoadNode d n →
    (shards : List ShardSeen) (objects : List ObjectSeen) (runs : List (LaneRun n limit)) →
    plans_in shards ≡ n.plans → map fixed_of objects ≡ n.objects →
    ServesAll (journals_of shards objects) runs →
    AllZip (AnswersLane d) (range_with_len 0 d.lanes) runs →
    CountsLoad d shards objects
