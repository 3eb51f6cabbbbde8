use Rattle.term_pool.proofs.Filed.{IsLeft}
use Rattle.term_pool.proofs.region.forget.Given as goal

abbrev pub invariant-loop-i : goal.invariant-loop-i
invariant-loop-i l = IsLeft l.nodes l.count l.i l.heads.items
