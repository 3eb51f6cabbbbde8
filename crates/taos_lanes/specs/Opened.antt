-- The node that an opening opens, and what its lanes do.
use Rattle.std.specs.Prelude.{◌≡◌, ℕ, ◌≤◌, [], length, All, None, Bool, List}
use Rattle.std.specs.List.Sorted.{IsStrictlyIncreasing}
use Rattle.keyed_seal.specs.Keys.{key_of}
use Rattle.object_core.specs.Objects.{object_of}
use Rattle.object_core.specs.OneOwner.{fixed_on, seen_on, own_on, taken_from}
use Rattle.object_core.specs.Operation.{IsAccessList}
use Rattle.object_core.specs.Shelving.{ObjectFixed, fixed_at, numbers_of as object_numbers}
use Rattle.std.specs.Option.{option_map}
use Rattle.node_file.specs.Opening.{Opening}
use Rattle.shard_core.specs.Cells.{fixed_with, its_plans, numbers_of}
use Rattle.shard_core.specs.Alone.{plans_in, seen_in, own_in}
use Rattle.agent_core.specs.State.{Plan}
use Rattle.agent_core.specs.declared.limits.TheConstants.{MAX_COMMONS}
use Rattle.taos_monitor.specs.Arriving.{node_of}
use Rattle.request_course.specs.Cells.{Node, Seen, seen_of, viewed}
use Rattle.node_file.specs.declared.limits.TheConstants.{MAX_OBJECTS}
use Rattle.taos_lanes.specs.declared.opened.OpenNode.{OpenNode}
use Rattle.frame_link.specs.declared.limits.Limits.{Limits}
use Rattle.taos_lanes.specs.Serving.{Left, ServesNode}
use Rattle.taos_lanes.specs.Workers.{LaneShown}
use Rattle.taos_monitor.specs.Changing.{Change}
use Rattle.taos_lanes.specs.Telling.{Telling}

-- the node has what the opening says, its channels and objects by ascending number
pub record IsNodeOf (o : Opening) (n : Node) : Type 0 where
  pub number : n.number ≡ o.node
  pub relay_key : n.relay_key ≡ o.relay_key
  pub channels : (number : ℕ) → key_of n.channels number ≡ key_of o.channels number
  pub count : length n.channels ≡ length o.channels
  pub ascending : IsStrictlyIncreasing (numbers_of n.channels)
  pub objects : (number : ℕ) →
      fixed_at n.objects number ≡ option_map (fixed_with o.limit) (object_of o.objects number)
  pub by_number : IsStrictlyIncreasing (object_numbers n.objects)
  pub plans : n.plans ≡ its_plans o n.channels

-- journals without entries
abbrev pub nothing_seen : Seen
nothing_seen =
    seen_of (viewed (λ shard. []) (λ shard. [])) (viewed (λ object. []) (λ object. []))

-- the node that it is
abbrev pub node_by : OpenNode → Node
node_by node = node_of node.keys (plans_in node.shards.shards) (fixed_on node.shelf)

-- what is seen of the node's journals
abbrev pub seen_by : OpenNode → Seen
seen_by node =
    seen_of (viewed (λ shard. seen_in node.shards.shards shard) (λ shard. own_in node.shards shard))
    (viewed (λ object. seen_on node.shelf object) (λ object. own_on node.shelf object))

-- the node has the same shards and objects, whatever their journals are, and no object is taken
pub record IsSameNode (old new : OpenNode) : Type 0 where
  pub plans : plans_in new.shards.shards ≡ plans_in old.shards.shards
  pub objects : fixed_on new.shelf ≡ fixed_on old.shelf
  pub none_taken : taken_from new.shelf ≡ None

-- the program's node is one of the opening, and its journals are empty
pub record IsOpenedBy (o : Opening) (node : OpenNode) : Type 0 where
  pub is_node : IsNodeOf o (node_by node)
  pub unseen : seen_by node ≡ nothing_seen
  pub none_taken : taken_from node.shelf ≡ None

-- the shard was opened with few commons
abbrev pub HasFewCommons : Plan → Type 0
HasFewCommons plan = length plan.commons ≤ MAX_COMMONS

-- the object was opened with a list that is within the limits
abbrev pub HasFittingList : ObjectFixed → Type 0
HasFittingList f = IsAccessList f.plan.list

-- it has few objects, each with a list within the limits, and each shard was opened with few commons
pub record IsSmall (node : OpenNode) : Type 0 where
  pub objects : length node.shelf.objects ≤ MAX_OBJECTS
  pub commons : All HasFewCommons (plans_in node.shards.shards)
  pub lists : All HasFittingList (fixed_on node.shelf)

-- A node of the opening served the doors of its lanes, from empty journals on, and left this: each
-- connection of each lane is answered in the journals by its own places, and each place of each is
-- own of one connection, once.
pub record ServesOpening {In Out : Type 0} (telling : Telling In Out) (o : Opening) (pulls : Bool)
    (limits : Limits) (lanes : Change (List (LaneShown (In × Out)))) (l : Left) : Type 0 where
  pub node : Node
  pub is_node : IsNodeOf o node
  pub serves : ServesNode telling node pulls limits lanes l
