use Rattle.std.proofs.Common.{rules}
use Rattle.turn_cell.proofs.Told.{ready, home_after}
use Rattle.turn_cell.proofs.steps.bring_home.Goals as goal

-- the value that was put has the view's fixed data, and its journal may go home
pub call-requires-clause-put : goal.call-requires-clause-put
call-requires-clause-put g c =
    ready g.V.Journaled.fixed g.V.Journaled.journal g.V.Journaled.allows c.args.seat.now.me c.put.new.seat.me c.args.value c.requires.turn.0 c.requires.turn.1 c.put.ensures.put.1 c.requires.fixed c.requires.journal

pub returns : goal.returns
returns g c =
    record { home = (search rules, home_after g.V.Journaled.journal c.args.seat.now.me c.put.new.seat.me c.call.new.seat.me c.args.value c.put.ensures.put.1 c.call.ensures.home.1) }
