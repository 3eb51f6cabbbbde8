-- fewer proofs are kept, apart from each other as before
use Rattle.std.proofs.Common.{not, sym, subst}
use Rattle.proof_cache.specs.Cache.{IsCache, cites_issuer}
use Rattle.proof_cache.proofs.Lists.{stays_filtered}
use Rattle.proof_cache.proofs.cache.Cache.purge_issuer.Goals as goal

pub invariant_of-self : goal.invariant_of-self
invariant_of-self c = (
  subst IsCache (sym c.drop_issued.ensures.left)
      (stays_filtered (λ x. not (cites_issuer c.args.issuer x)) _ c.self.invariant.0),
  rw c.drop_issued.ensures.capacity c.self.invariant.1,
)
