-- A wanted row of a settled search has all answers, and rows have no others.
use Rattle.std.proofs.Common.{◌↔◌, ℕ, refl, Contains}
use Rattle.goal_search.specs.Goals.{ForWhom}
use Rattle.goal_search.specs.NumberedRows.{IsAnswerAt}
use Rattle.goal_search.specs.Searching.{Core, about, claims_in, Has, IsNumber, IsReady, IsSettled, of_number}
use Rattle.goal_search.proofs.ByCited.{cited_lefts}
use Rattle.goal_search.proofs.Grounding.{has_answers}
use Rattle.goal_search.proofs.Numbers.{finished_decide}

module _ (s : Core) (ready : IsReady s) where
  -- what a number's row has, it speaks for
  pub known_answers : (left right : ℕ) → IsNumber s left → Has s left right →
      IsAnswerAt s.nodes s.anchors (claims_in (about s)) (ForWhom left) right
  known_answers left right hl h = has_answers s ready left right h (ForWhom left) (of_number hl refl)

  -- and where the row is wanted and nothing is left to do, it speaks for nothing else
  pub settled_decides : IsSettled s → (left right : ℕ) → IsNumber s left → IsNumber s right → Contains s.wanted left → Has s left left →
      IsAnswerAt s.nodes s.anchors (claims_in (about s)) (ForWhom left) right ↔ Has s left right
  settled_decides settled left right hl hr wanted begun =
      finished_decide s.nodes s.anchors (claims_in (about s)) (Contains s.wanted) (Has s) ready.table
      (cited_lefts s.nodes ready.table s.cited ready.cited_in) settled left (ForWhom left) wanted hl begun
      (λ i h k. known_answers left i hl k) right hr
