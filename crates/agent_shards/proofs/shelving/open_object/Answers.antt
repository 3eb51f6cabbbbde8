-- the object in the cell is the object
use Rattle.agent_shards.proofs.Shelves.{object_opened}
use Rattle.agent_shards.proofs.shelving.open_object.Goals as goal

pub returns : goal.returns
returns c = let e = c.in_ok-cell.ensures in
    object_opened c.args.object c.new-guarded.result c.in_ok-cell.cell c.in_ok-cell.pass c.new-guarded.ensures.object
    (record { its_fixed = e.fixed; opening = e.opening; of_cell = e.cell; seen = e.seen; own = e.own; shares = e.shares }) c.new-guarded.ensures.within
