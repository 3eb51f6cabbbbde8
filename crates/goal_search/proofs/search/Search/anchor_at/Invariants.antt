use Rattle.std.proofs.Common.{◌≡◌, ℕ, ◌<◌, Some, slice_get}
use Rattle.prin_term.specs.declared.term.Anchor.{Anchor}
use Rattle.goal_search.proofs.search.Search.anchor_at.Given as goal

abbrev pub invariant-loop-i : goal.invariant-loop-i
invariant-loop-i l = (k : ℕ) (anchor : Anchor) → k < l.i → slice_get l.self.anchors.items k ≡ Some anchor → anchor.key ≡ l.key → anchor.name ≡ l.name → ⊥
