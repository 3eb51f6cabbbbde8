use Rattle.std.proofs.Common.{◌≡◌, ℕ, List, length, ap, ◌∙◌, subst, inr, arith}
use Rattle.std.specs.Mem.Slots.{slots_counts}
use Rattle.turn_cell.proofs.Emptied.{all_empty, still_full}
use Rattle.turn_cell.specs.Journal.{times, once_within}
use Rattle.turn_cell.proofs.Told.{closes_to}
use Rattle.turn_cell.proofs.cell.TurnCell.close.Goals as goal

-- the slot was at home, with a value that the pass had seen whole
pub unwrap-requires : goal.unwrap-requires
unwrap-requires g c =
    (closes_to g.V.Journaled.fixed g.V.Journaled.journal g.V.Journaled.allows _ _ c.pass.inside.seat.me _ _ _ _
    c.pass.invariant.idle (c.pass.invariant.counted ∙ ap (λ k. k.shares) c.pass.view_is) c.requires.shares
    c.close_with-closed.ensures.values.2 c.take-value.ensures.value).some_there

pub returns-clause-fixed : goal.returns-clause-fixed
returns-clause-fixed g c =
    (closes_to g.V.Journaled.fixed g.V.Journaled.journal g.V.Journaled.allows _ _ c.pass.inside.seat.me _ _ _ _
    c.pass.invariant.idle (c.pass.invariant.counted ∙ ap (λ k. k.shares) c.pass.view_is) c.requires.shares
    c.close_with-closed.ensures.values.2 c.take-value.ensures.value).its_fixed c.unwrap.result c.unwrap.ensures
    ∙ ap (λ k. k.fixed) c.self.view_is

pub returns-clause-journal : goal.returns-clause-journal
returns-clause-journal g c =
    (closes_to g.V.Journaled.fixed g.V.Journaled.journal g.V.Journaled.allows _ _ c.pass.inside.seat.me _ _ _ _
    c.pass.invariant.idle (c.pass.invariant.counted ∙ ap (λ k. k.shares) c.pass.view_is) c.requires.shares
    c.close_with-closed.ensures.values.2 c.take-value.ensures.value).its_journal c.unwrap.result c.unwrap.ensures
    ∙ ap (λ k. k.seen) c.pass.view_is

pub returns-clause-own : goal.returns-clause-own
returns-clause-own g c = λ place. subst (λ (z : List ℕ × (ℕ × ℕ)). times place z.0 ≡ once_within z.1.0 z.1.1 place)
    (λ i. ((c.pass.view_is i).own, (length (c.self.view_is i).opening, length (c.pass.view_is i).seen)))
    ((closes_to g.V.Journaled.fixed g.V.Journaled.journal g.V.Journaled.allows _ _ c.pass.inside.seat.me _ _ _ _
    c.pass.invariant.idle (c.pass.invariant.counted ∙ ap (λ k. k.shares) c.pass.view_is) c.requires.shares
    c.close_with-closed.ensures.values.2 c.take-value.ensures.value).its_own place)

-- before and behind the value's slot each is filled, and none is once it is taken
pub drop_between-requires-clause-filled : goal.drop_between-requires-clause-filled
drop_between-requires-clause-filled g c = λ k low high.
    still_full _ _ _ k c.take-value.ensures.others.1 c.close_with-closed.ensures.values.1 (c.close_with-closed.ensures.counts.1 ∙ c.self.invariant.1) (omega arith) (omega arith)

pub drop_between-requires-2-clause-filled : goal.drop_between-requires-2-clause-filled
drop_between-requires-2-clause-filled g c = λ k low high. c.drop_between.ensures.others k (inr (omega arith)) ∙
    still_full _ _ _ k c.take-value.ensures.others.1 c.close_with-closed.ensures.values.1 (c.close_with-closed.ensures.counts.1 ∙ c.self.invariant.1) (omega arith) (omega arith)

pub free-requires : goal.free-requires
free-requires g c = λ k lt.
    let count = c.close_with-closed.ensures.counts.1 ∙ c.self.invariant.1 in
    all_empty _ _ _ _ k c.take-value.ensures.others.1 (omega (arith, count, (slots_counts c.close_with-closed.result.slots).1)) c.drop_between.ensures.empty c.drop_between.ensures.others
    c.drop_between-2.ensures.empty c.drop_between-2.ensures.others (omega (arith, lt, count, c.take-value.ensures.others.2, c.drop_between.ensures.slots.1, c.drop_between-2.ensures.slots.1))
