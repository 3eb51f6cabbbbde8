-- With what is fetched, or without.
use Rattle.taos_wire.specs.View.{request as request_of}
use Rattle.taos_monitor.proofs.Desks.{handled_plainly}
use Rattle.taos_monitor.proofs.desk.Desk.handle.Goals as goal

pub returns-clause-handled : goal.returns-clause-handled
returns-clause-handled g c =
    let done = c.request.ensures in (
      done.handled.0,
      handled_plainly _ _ _ (request_of c.args.asked) c.request.new.out c.if-self.false done.handled.1 c.request.result done.handled.2,
    )
