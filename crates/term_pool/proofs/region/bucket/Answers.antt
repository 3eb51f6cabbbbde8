use Rattle.term_pool.proofs.Filed.{bucket-is}
use Rattle.term_pool.proofs.region.bucket.Goals as goal

pub returns-clause-bucket : goal.returns-clause-bucket
returns-clause-bucket c = rw c.mark.ensures (bucket-is c.args.count c.args.node)
