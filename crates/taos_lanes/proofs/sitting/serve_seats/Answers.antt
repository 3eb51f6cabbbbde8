-- What the desk borrowed is back as it was left.
use Rattle.std.proofs.Common.{rules}
use Rattle.taos_lanes.proofs.Sat.{desk_lent}
use Rattle.taos_lanes.proofs.sitting.serve_seats.Goals as goal

pub returns-clause-served : goal.returns-clause-served
returns-clause-served g c =
    let it = c.serve_door.ensures.served in
    let names = desk_lent _ _ _ _ _ _ it.still.stays.lent in
    record { serves = search (rules, names, it.serves, it.still.pulls); work = it.still.work }

pub returns-clause-taken : goal.returns-clause-taken
returns-clause-taken g c =
    let names = desk_lent _ _ _ _ _ _ c.serve_door.ensures.served.still.stays.lent in
    search (rules, names, c.serve_door.ensures.free.none_taken)
