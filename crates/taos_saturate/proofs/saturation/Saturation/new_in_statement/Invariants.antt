use Rattle.std.proofs.Common.{◌≡◌, ℕ, ◌<◌, Some, slice_get}
use Rattle.term_pool.specs.declared.found.Pair.{Pair}
use Rattle.taos_saturate.specs.Saturating.{SaysFull, LiftFull}
use Rattle.taos_saturate.proofs.saturation.Saturation.new_in_statement.Given as goal

abbrev pub invariant-loop-k : goal.invariant-loop-k
invariant-loop-k l = (m : ℕ) → m < l.k → (p : Pair) → slice_get l.self.found.statements.items l.place ≡ Some p → SaysFull l.self m p × LiftFull l.self m p
