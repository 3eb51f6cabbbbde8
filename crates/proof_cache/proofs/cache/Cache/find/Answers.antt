-- the order changes, and nothing else
use Rattle.std.proofs.Common.{sym, subst, arith}
use Rattle.proof_cache.specs.Cache.{IsCache}
use Rattle.proof_cache.proofs.Lists.{stays_in_order}
use Rattle.proof_cache.proofs.cache.Cache.find.Goals as goal

pub invariant_of-self : goal.invariant_of-self
invariant_of-self c = (
  subst IsCache (sym c.bring.ensures.moved) (stays_in_order _ _ _ c.self.invariant.0),
  omega (arith, c.bring.ensures.capacity, c.self.invariant.1),
)
