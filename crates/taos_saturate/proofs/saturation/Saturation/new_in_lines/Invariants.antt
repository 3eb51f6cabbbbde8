use Rattle.std.proofs.Common.{ℕ, ◌<◌}
use Rattle.taos_saturate.specs.Saturating.{LineFull}
use Rattle.taos_saturate.proofs.saturation.Saturation.new_in_lines.Given as goal

abbrev pub invariant-loop-number : goal.invariant-loop-number
invariant-loop-number l = (m : ℕ) → m < l.number → LineFull l.self m
