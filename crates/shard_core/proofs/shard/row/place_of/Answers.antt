-- a search that ends at a gap found no such number
use Rattle.shard_core.proofs.Searching.{not_found}
use Rattle.shard_core.proofs.shard.row.place_of.Goals as goal

pub returns-in-Err : goal.returns-in-Err
returns-in-Err c = not_found c.args.channels.now c.args.channel c.in-Err.field-0 c.requires c.in-Err.ensures.position
