-- a certificate is missing, or the lease has ended, or nothing speaks against it
use Rattle.proof_cache.specs.Cached.{cached}
use Rattle.shard_core.specs.Kept.{state_of, told_against}
use Rattle.shard_core.proofs.Keeps.{against_lease, against_missing}
use Rattle.shard_core.proofs.shard.keeping.cause_against.Goals as goal

pub returns-in-Some : goal.returns-in-Some
returns-in-Some c = against_missing (state_of c.args.book.now) (cached c.args.proof.now) c.in-Some.digest c.in-Some.ensures

pub returns-in-None : goal.returns-in-None
returns-in-None c =
    against_lease (state_of c.args.book.now) (cached c.args.proof.now) (told_against c.lapse.result) c.args.store.now.clock
    c.in-None.ensures c.requires.store.clock_is c.lapse.ensures
