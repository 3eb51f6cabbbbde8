-- What the lane lent is back as it was left.
use Rattle.std.proofs.Common.{ap, refl, rules}
use Rattle.frame_link.specs.Lent.{Both, Nothing}
use Rattle.taos_lanes.proofs.Sat.{first_lent}
use Rattle.taos_lanes.proofs.worker.LaneWorker.serve.Goals as goal

pub returns-clause-connection : goal.returns-clause-connection
returns-clause-connection g c =
    let it = c.serve.ensures.connection in
    (record { setting = it.0.setting; lent = ap (λ l. Both l Nothing) (first_lent _ _ _ _ it.0.lent) }, search (rules, it.1))

pub returns-clause-unfetched : goal.returns-clause-unfetched
returns-clause-unfetched g c = λ unpulled. search (rules, c.serve.ensures.unfetched unpulled)

pub returns-clause-rest : goal.returns-clause-rest
returns-clause-rest g c = record { same_door = refl; door = refl; work = refl; tally = refl }
