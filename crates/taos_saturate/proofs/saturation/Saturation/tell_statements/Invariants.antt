use Rattle.taos_saturate.specs.Saturating.{IsGrown}
use Rattle.taos_saturate.proofs.saturation.Saturation.tell_statements.Given as goal

abbrev pub invariant-loop-place : goal.invariant-loop-place
invariant-loop-place l = IsGrown l.fn.self l.self
