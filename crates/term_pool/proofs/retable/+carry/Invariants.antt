use Rattle.term_pool.proofs.retable.+carry.Given as goal

abbrev pub decreases-carry : goal.decreases-carry
decreases-carry l = l.id
