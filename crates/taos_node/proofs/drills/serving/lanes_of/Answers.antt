-- one lane more, of one stream more
use Rattle.taos_node.proofs.DrillRuns.{more_lanes}
use Rattle.taos_node.proofs.drills.serving.lanes_of.Goals as goal

pub loop-bytes-preserved : goal.loop-bytes-preserved
loop-bytes-preserved c =
    more_lanes c.loop-bytes.yielded c.in-Some.bytes c.loop-bytes.lanes.items c.in_ok-lane_of.field-0 c.push.new.self.items c.in_ok-push.ensures.items c.loop-bytes.invariant.0 c.in_ok-lane_of.ensures c.loop-bytes.invariant.1
