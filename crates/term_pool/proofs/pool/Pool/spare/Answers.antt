use Rattle.std.proofs.Common.{arith}
use Rattle.term_pool.proofs.Pools.{terms_long}
use Rattle.term_pool.proofs.pool.Pool.spare.Goals as goal

pub returns : goal.returns
returns c =
    let r = c.self.inside.region in
    rw (← c.self.view_is) (omega (arith, terms_long r c.self.invariant, c.self.invariant.few, c.len.ensures, r.nodes.ok.0))
