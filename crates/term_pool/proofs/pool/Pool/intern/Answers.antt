use Rattle.prin_term.specs.View.{principal}
use Rattle.term_pool.proofs.Pools.{interned}
use Rattle.term_pool.proofs.pool.Pool.intern.Goals as goal

pub returns : goal.returns
returns c =
    rw (← c.self.view_is)
    (interned c.intern.new.self c.intern.ensures.region c.self.inside.region (principal c.args.term.now) c.intern.result c.intern.ensures.same_room c.intern.ensures.taken)
