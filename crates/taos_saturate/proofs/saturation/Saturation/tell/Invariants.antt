use Rattle.term_pool.specs.Finding.{room}
use Rattle.taos_saturate.specs.Saturating.{IsGrown}
use Rattle.taos_saturate.proofs.saturation.Saturation.tell.Given as goal

abbrev pub invariant-loop-line : goal.invariant-loop-line
invariant-loop-line l = IsGrown l.fn.self l.self

abbrev pub decreases-loop-line : goal.decreases-loop-line
decreases-loop-line l = room l.self.found
