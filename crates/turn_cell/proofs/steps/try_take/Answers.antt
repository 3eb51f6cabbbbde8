use Rattle.std.proofs.Common.{rules}
use Rattle.turn_cell.proofs.Told.{has_slot, took}
use Rattle.turn_cell.proofs.steps.try_take.Goals as goal

-- off its turn the look changed nothing
pub returns-then-serving-ticket-clause-err : goal.returns-then-serving-ticket-clause-err
returns-then-serving-ticket-clause-err g c = c.look-serving.ensures.later c.if-serving-ticket.true

-- on its turn the seat has the slot with the value
pub take-requires-clause-slot : goal.take-requires-clause-slot
take-requires-clause-slot g c = let h = (c.look-serving.ensures.turn c.if-serving-ticket.false).1 in
    (h.value, has_slot g.V.Journaled.fixed g.V.Journaled.journal g.V.Journaled.allows c.args.ticket c.args.seat.now.me c.look-serving.new.seat.me h c.requires.waits.2)

pub returns-clause-ok : goal.returns-clause-ok
returns-clause-ok g c = (
  search rules,
  took g.V.Journaled.fixed g.V.Journaled.journal g.V.Journaled.allows c.args.ticket c.args.seat.now.me c.look-serving.new.seat.me c.take.new.seat.me c.take.result
      (c.look-serving.ensures.turn c.if-serving-ticket.false).1 c.requires.waits.2 c.take.ensures.taken.1,
)
