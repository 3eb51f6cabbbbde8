-- What a node is opened with.
use Rattle.std.specs.Prelude.{◌≡◌, [], All, map}
use Rattle.shard_core.specs.Alone.{plans_in}
use Rattle.agent_core.specs.Journals.{ShardSeen}
use Rattle.agent_core.specs.Plans.{AreShards}
use Rattle.object_core.specs.Objects.{ObjectSeen}
use Rattle.object_core.specs.Shelving.{HaveOwnNumbers, fixed_of}
use Rattle.taos_monitor.specs.Arriving.{node_of}
use Rattle.request_course.specs.Cells.{Node}
use Rattle.taos_monitor.specs.Planned.{ArePlanned}
use Rattle.taos_lanes.specs.declared.parts.NodeParts.{NodeParts}

-- the node of these parts
abbrev pub node_in : NodeParts → Node
node_in n = node_of n.keys (plans_in n.shards.items) (map fixed_of n.objects.items)

-- the parts belong together, and no journal has an entry
pub record ArePartsNew (n : NodeParts) : Type 0 where
  pub shards : AreShards (plans_in n.shards.items) n.anchors.value.items
  pub shards_new : All (λ (s : ShardSeen). s.journal ≡ []) n.shards.items
  pub objects : HaveOwnNumbers (map fixed_of n.objects.items)
  pub objects_new : All (λ (o : ObjectSeen). o.journal ≡ []) n.objects.items
  pub planned : ArePlanned n.keys.channels.entries (plans_in n.shards.items)
