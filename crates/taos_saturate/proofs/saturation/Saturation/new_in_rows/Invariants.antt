use Rattle.std.proofs.Common.{ℕ, ◌<◌}
use Rattle.taos_saturate.specs.Saturating.{IsNumber, SpeaksFull}
use Rattle.taos_saturate.proofs.saturation.Saturation.new_in_rows.Given as goal

abbrev pub invariant-loop-k : goal.invariant-loop-k
invariant-loop-k l = (m : ℕ) → m < l.k → (r : ℕ) → IsNumber l.self r → SpeaksFull l.self m r
