-- the shard that was boxed is the shard
use Rattle.agent_shards.proofs.Seats.{shard_opened}
use Rattle.agent_shards.proofs.opening.open_shard.Goals as goal

pub returns : goal.returns
returns c = let e = c.in_ok-cell.ensures in
    shard_opened c.args.shard c.in_ok-machine.machine c.in_ok-cell.cell c.in_ok-cell.pass c.in_ok-machine.ensures.shard
    (record { its_fixed = e.fixed; opening = e.opening; of_cell = e.cell; seen = e.seen; own = e.own; shares = e.shares }) c.in_ok-machine.ensures.legal
