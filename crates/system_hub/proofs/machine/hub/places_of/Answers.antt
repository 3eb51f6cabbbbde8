-- One more place stands behind the others.
use Rattle.std.proofs.Common.{◌++◌, ◌∙◌, ℕ, List, [], ◌∷◌, ap, arith}
use Rattle.system_hub.proofs.Beginning.{range_next}
use Rattle.system_hub.proofs.machine.hub.places_of.Goals as goal

pub loop-place-preserved : goal.loop-place-preserved
loop-place-preserved c = (
  c.in_ok-push.ensures.items
      ∙ ap (λ (l : List ℕ). l ++ c.loop-place.place ∷ []) c.loop-place.invariant.0
      ∙ range_next c.loop-place.place,
  omega (arith, c.loop-place.invariant.1, c.in_ok-push.ensures.capacity),
)
