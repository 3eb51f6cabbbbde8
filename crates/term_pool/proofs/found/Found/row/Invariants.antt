use Rattle.std.proofs.Common.{◌≡◌, ℕ, ◌<◌, Some, slice_get}
use Rattle.term_pool.specs.Finding.{pair}
use Rattle.term_pool.proofs.found.Found.row.Given as goal

abbrev pub invariant-loop-k : goal.invariant-loop-k
invariant-loop-k l = (m : ℕ) → m < l.k → slice_get l.self.statements.items m ≡ Some (pair l.left l.right) → ⊥
