-- as many names as certificates
use Rattle.std.proofs.Common.{ap, length, arith}
use Rattle.shard_core.specs.Names.{named}
use Rattle.agent_core.proofs.AtPlaces.{count_named}
use Rattle.shard_core.proofs.shard.forgetting.clear.Goals as goal

pub returns-clause-count : goal.returns-clause-count
returns-clause-count c =
    let count = count_named (named c.args.book.now) c.settle.new.row.own.items c.settle.ensures.names in
    omega (arith, count, c.len-count.ensures.value, ap (λ certs. length certs) c.settle.ensures.own)
