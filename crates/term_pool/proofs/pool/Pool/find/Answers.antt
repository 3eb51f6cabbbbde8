use Rattle.prin_term.specs.View.{principal}
use Rattle.term_pool.proofs.Pools.{finds}
use Rattle.term_pool.proofs.pool.Pool.find.Goals as goal

pub returns : goal.returns
returns c = rw (← c.self.view_is) (finds c.self.inside.region c.self.invariant (principal c.args.term.now) c.find.result c.find.ensures)
