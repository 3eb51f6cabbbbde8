use Rattle.turn_cell.proofs.Told.{out_after}
use Rattle.turn_cell.proofs.cell.TurnCell.enter.Goals as goal

-- the seat drew a ticket, waited, and took the value on its turn
pub invariant_of-result : goal.invariant_of-result
invariant_of-result g c =
    out_after g.V.Journaled.fixed g.V.Journaled.journal g.V.Journaled.allows _ _ c.pass.inside.seat.me _ _ _ _ _ c.pass.invariant c.draw_alone-ticket.ensures.drawn.1 c.loop.invariant.1 c.in-Ok.ensures.ok.1
