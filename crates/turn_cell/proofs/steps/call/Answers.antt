use Rattle.std.proofs.Common.{rules}
use Rattle.turn_cell.proofs.Told.{may_call, called_home, called_ticket}
use Rattle.turn_cell.proofs.steps.call.Goals as goal

-- the value in the slot is one that may go home
pub fetch_add-requires : goal.fetch_add-requires
fetch_add-requires g c = (search rules, search rules, may_call _ _ _ _ _ _ _ c.requires.put)

pub returns-clause-home : goal.returns-clause-home
returns-clause-home g c = (c.fetch_add.ensures.0, called_home g.V.Journaled.fixed g.V.Journaled.journal g.V.Journaled.allows c.args.shelf.now.table_id.slots c.fetch_add.result c.args.seat.now.me c.fetch_add.new.seat.me c.requires.put c.fetch_add.ensures.2)

pub returns-clause-served : goal.returns-clause-served
returns-clause-served g c = called_ticket g.V.Journaled.fixed g.V.Journaled.journal g.V.Journaled.allows c.args.shelf.now.table_id.slots c.fetch_add.result c.args.seat.now.me c.fetch_add.new.seat.me c.requires.put c.fetch_add.ensures.2
