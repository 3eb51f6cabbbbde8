use Rattle.std.proofs.Common.{rules}
use Rattle.turn_cell.proofs.Keeps.{looks}
use Rattle.turn_cell.proofs.steps.look.Goals as goal

pub load-requires : goal.load-requires
load-requires g c = (search rules, search rules, looks _ _ _ _ _ _ _ _ c.requires.waits.0 c.requires.waits.1)

pub returns-clause-later : goal.returns-clause-later
returns-clause-later g c = λ other. (c.load.ensures.0, (c.load.ensures.2 c.args.ticket c.requires.waits.0).1 other)
