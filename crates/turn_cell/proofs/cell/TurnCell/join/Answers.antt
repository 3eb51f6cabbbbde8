use Rattle.std.proofs.Common.{rules, ℕ, ◌+◌, ◌≤◌, List, subst}
use Rattle.turn_cell.specs.Journal.{times}
use Rattle.turn_cell.proofs.Told.{rests_joined}
use Rattle.turn_cell.proofs.cell.TurnCell.join.Goals as goal

-- two passes of one cell have no more shares than there are
pub overflow_add-result : goal.overflow_add-result
overflow_add-result g c = let few = c.join.ensures.joined.1.few in let a = c.first.invariant.counted in let b = c.second.invariant.counted in search (rules, few, a, b)

pub invariant_of-result : goal.invariant_of-result
invariant_of-result g c = rests_joined _ _ _ _ _ _ c.first.invariant c.second.invariant c.join.ensures.joined.1

pub returns-clause-apart : goal.returns-clause-apart
returns-clause-apart g c = λ place. subst (λ (z : List ℕ × List ℕ). times place z.0 + times place z.1 ≤ 1) (λ i. ((c.first.view_is i).own, (c.second.view_is i).own)) (c.join.ensures.joined.1.distinct place)
