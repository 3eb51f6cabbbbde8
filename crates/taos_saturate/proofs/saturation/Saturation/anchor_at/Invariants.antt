use Rattle.std.proofs.Common.{◌≡◌, ℕ, ◌<◌, Some, slice_get}
use Rattle.taos_saturate.proofs.saturation.Saturation.anchor_at.Given as goal

abbrev pub invariant-loop-i : goal.invariant-loop-i
invariant-loop-i l = (m : ℕ) → m < l.i → slice_get l.self.anchors.items m ≡ Some (record { key = l.key; name = l.name }) → ⊥
