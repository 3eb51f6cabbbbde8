use Rattle.taos_lanes.proofs.Ends.{idle_after, same_ends}
use Rattle.taos_lanes.proofs.serving.serve.Goals as goal

pub returns-in-Err-clause-unserved : goal.returns-in-Err-clause-unserved
returns-in-Err-clause-unserved g c = same_ends _ _ _ c.in-Err.ensures.unserved c.empty.ensures

pub returns-in-Err-clause-idle : goal.returns-in-Err-clause-idle
returns-in-Err-clause-idle g c =
    idle_after g.L.Worker.shown _ _ c.empty.ensures
