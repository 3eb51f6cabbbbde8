use Rattle.taos_lanes.proofs.Relayed.{kept_on}
use Rattle.taos_lanes.proofs.relaying.relay_lane.Goals as goal

pub returns : goal.returns
returns g c = kept_on _ _ _ _ _ _ _ c.relay_door-tally.ensures c.keep.ensures
