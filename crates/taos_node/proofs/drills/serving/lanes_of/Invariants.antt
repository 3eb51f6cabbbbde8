-- the lanes of the streams before this one
use Rattle.std.proofs.Common.{◌≡◌, length, map}
use Rattle.taos_wire.specs.View.{text_of}
use Rattle.taos_node.specs.Drills.{AreDrillLanes, drill_shown}
use Rattle.taos_node.proofs.drills.serving.lanes_of.Given as goal

abbrev pub invariant-loop-bytes : goal.invariant-loop-bytes
invariant-loop-bytes l = AreDrillLanes (map text_of l.yielded) (map drill_shown l.lanes.items) × (length l.lanes.items ≡ length l.yielded)
