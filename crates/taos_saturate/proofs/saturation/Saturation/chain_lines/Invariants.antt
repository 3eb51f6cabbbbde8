use Rattle.taos_saturate.specs.Saturating.{IsGrown}
use Rattle.taos_saturate.proofs.saturation.Saturation.chain_lines.Given as goal

abbrev pub invariant-loop-number : goal.invariant-loop-number
invariant-loop-number l = IsGrown l.fn.self l.self
