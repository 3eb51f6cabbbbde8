-- What the desk did is what the service does, and it is as ready as before.
use Rattle.std.proofs.Common.{arith}
use Rattle.taos_monitor.proofs.Desks.{lent_under, planned_on}
use Rattle.taos_monitor.proofs.connection.AnsweringService.answer.Goals as goal

pub returns-in-Replied-clause-answered : goal.returns-in-Replied-clause-answered
returns-in-Replied-clause-answered g c = c.in-Replied.ensures.answered

pub returns-in-Replied-clause-fits : goal.returns-in-Replied-clause-fits
returns-in-Replied-clause-fits g c = omega (arith, c.in-Replied.ensures.answered.1.short)

pub returns-in-ClockFault-clause-given_up : goal.returns-in-ClockFault-clause-given_up
returns-in-ClockFault-clause-given_up g c = c.in-ClockFault.ensures.answered

pub returns-in-Replied-clause-stays : goal.returns-in-Replied-clause-stays
returns-in-Replied-clause-stays g c = (c.requires.stands.0, planned_on _ _ c.answer.ensures.answered.0.setting c.requires.stands.1, c.answer.ensures.free)

pub returns-in-ClockFault-clause-stays : goal.returns-in-ClockFault-clause-stays
returns-in-ClockFault-clause-stays g c = (c.requires.stands.0, planned_on _ _ c.answer.ensures.answered.0.setting c.requires.stands.1, c.answer.ensures.free)

pub returns-in-Replied-clause-same : goal.returns-in-Replied-clause-same
returns-in-Replied-clause-same g c = lent_under c.args.self.now.outside.ghost_name c.answer.ensures.answered.0.lent

pub returns-in-ClockFault-clause-same : goal.returns-in-ClockFault-clause-same
returns-in-ClockFault-clause-same g c = lent_under c.args.self.now.outside.ghost_name c.answer.ensures.answered.0.lent
