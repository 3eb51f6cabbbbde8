use Rattle.taos_saturate.specs.Saturating.{IsGrown}
use Rattle.taos_saturate.proofs.saturation.Saturation.try_row.Given as goal

abbrev pub invariant-loop-k : goal.invariant-loop-k
invariant-loop-k l = IsGrown l.fn.self l.self
