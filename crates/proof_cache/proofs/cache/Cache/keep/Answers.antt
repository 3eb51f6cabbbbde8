-- no other is kept for the same, and there are no more than can be
use Rattle.std.proofs.Common.{sym, subst, arith}
use Rattle.proof_cache.specs.Cached.{cached}
use Rattle.proof_cache.specs.Cache.{IsCache}
use Rattle.proof_cache.proofs.Lists.{stays_kept}
use Rattle.proof_cache.proofs.cache.Cache.keep.Goals as goal

pub invariant_of-self : goal.invariant_of-self
invariant_of-self c = (
  subst IsCache (sym c.put.ensures.kept) (stays_kept (cached c.args.proof.value) _ c.self.invariant.0),
  omega (arith, c.put.ensures.capacity, c.self.invariant.1),
)
