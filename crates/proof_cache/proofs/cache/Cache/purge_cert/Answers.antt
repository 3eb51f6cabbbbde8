-- fewer proofs are kept, apart from each other as before
use Rattle.std.proofs.Common.{not, sym, subst}
use Rattle.proof_cache.specs.Cache.{IsCache, cites_it}
use Rattle.proof_cache.proofs.Lists.{stays_filtered}
use Rattle.proof_cache.proofs.cache.Cache.purge_cert.Goals as goal

pub invariant_of-self : goal.invariant_of-self
invariant_of-self c = (
  subst IsCache (sym c.drop_citing.ensures.left)
      (stays_filtered (λ x. not (cites_it c.args.digest.now x)) _ c.self.invariant.0),
  rw c.drop_citing.ensures.capacity c.self.invariant.1,
)
