use Rattle.std.proofs.Common.{◌≡◌, ℕ, ◌<◌, Some, slice_get}
use Rattle.term_pool.specs.declared.cited.Cited.{Cited}
use Rattle.term_pool.specs.Claims.{IsSaying}
use Rattle.taos_saturate.proofs.saturation.Saturation.cited_at.Given as goal

abbrev pub invariant-loop-i : goal.invariant-loop-i
invariant-loop-i l = (m : ℕ) → m < l.i → (c : Cited) → slice_get l.self.cited.items m ≡ Some c → IsSaying c l.speaker l.left l.right → ⊥
