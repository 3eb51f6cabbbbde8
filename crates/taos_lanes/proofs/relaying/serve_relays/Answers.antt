use Rattle.taos_lanes.proofs.Relayed.{relays}
use Rattle.taos_lanes.proofs.relaying.serve_relays.Goals as goal

pub returns : goal.returns
returns g c =
    relays g.L.Worker.shown _ _ _ _ _ _ c.relay_all.ensures c.total_of.ensures
