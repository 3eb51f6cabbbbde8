use Rattle.turn_cell.proofs.Told.{own_kept, own_added, rests_home}
use Rattle.turn_cell.proofs.cell.TurnCell.leave.Goals as goal

pub invariant_of-result : goal.invariant_of-result
invariant_of-result g c = rests_home _ _ _ _ _ c.held.invariant.counted c.held.invariant.least c.held.invariant.most c.bring_home.ensures.home.1

-- the own places of the view, with the place of an added entry
pub returns-clause-kept : goal.returns-clause-kept
returns-clause-kept g c = own_kept c.held.inside.seat.me c.bring_home.new.seat.me c.args.held.entered (g.V.Journaled.journal c.args.value) c.args.held.own c.bring_home.ensures.home.1.after (λ i. (c.held.view_is i).entered) (λ i. (c.held.view_is i).own)

pub returns-clause-added : goal.returns-clause-added
returns-clause-added g c = own_added c.held.inside.seat.me c.bring_home.new.seat.me c.args.held.entered (g.V.Journaled.journal c.args.value) c.args.held.own c.bring_home.ensures.home.1.after (λ i. (c.held.view_is i).entered) (λ i. (c.held.view_is i).own)
