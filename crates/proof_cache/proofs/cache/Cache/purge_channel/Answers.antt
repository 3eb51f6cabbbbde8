-- fewer proofs are kept, apart from each other as before
use Rattle.std.proofs.Common.{not, sym, subst}
use Rattle.proof_cache.specs.Cache.{IsCache, is_of_channel}
use Rattle.proof_cache.proofs.Lists.{stays_filtered}
use Rattle.proof_cache.proofs.cache.Cache.purge_channel.Goals as goal

pub invariant_of-self : goal.invariant_of-self
invariant_of-self c = (
  subst IsCache (sym c.drop_on.ensures.left)
      (stays_filtered (λ x. not (is_of_channel c.args.channel x)) _ c.self.invariant.0),
  rw c.drop_on.ensures.capacity c.self.invariant.1,
)
