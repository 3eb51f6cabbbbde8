use Rattle.std.proofs.Common.{ℕ, ◌<◌}
use Rattle.taos_saturate.specs.Saturating.{SpeaksFull}
use Rattle.taos_saturate.proofs.saturation.Saturation.new_in_row.Given as goal

abbrev pub invariant-loop-k : goal.invariant-loop-k
invariant-loop-k l = (m : ℕ) → m < l.k → SpeaksFull l.self l.left m
