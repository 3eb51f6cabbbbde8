use Rattle.std.proofs.Common.{◌≡◌, ℕ, ◌<◌, Some, slice_get}
use Rattle.term_pool.specs.declared.found.Pair.{Pair}
use Rattle.taos_saturate.specs.Saturating.{IsNumber, SaysFull, LiftFull}
use Rattle.taos_saturate.proofs.saturation.Saturation.new_in_statements.Given as goal

abbrev pub invariant-loop-place : goal.invariant-loop-place
invariant-loop-place l =
    (m : ℕ) → m < l.place → (w : ℕ) → IsNumber l.self w → (p : Pair) → slice_get l.self.found.statements.items m ≡ Some p → SaysFull l.self w p × LiftFull l.self w p
