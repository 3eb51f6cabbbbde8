-- the line, or a front of it, or nothing
use Rattle.std.proofs.Common.{refl, arith}
use Rattle.std.proofs.KnownBytes.{Keeps-refl}
use Rattle.taos_node.proofs.lanes.print_line.Goals as goal

pub returns-then-first-lanes-clause-prints : goal.returns-then-first-lanes-clause-prints
returns-then-first-lanes-clause-prints g c = (refl, c.if-first-lanes.true, Keeps-refl (g.O.Sink.shown c.args.output.now).told)

pub returns-then-lacked-ne0-clause-prints : goal.returns-then-lacked-ne0-clause-prints
returns-then-lacked-ne0-clause-prints g c = (c.if-first-lanes.false, omega (arith, c.if-lacked-ne0.true), Keeps-refl (g.O.Sink.shown c.args.output.now).told)

pub returns-in-Err-clause-prints : goal.returns-in-Err-clause-prints
returns-in-Err-clause-prints g c =
    let part = c.in-Err.ensures.part in
    (record { doors = c.if-first-lanes.false; memory = c.if-lacked-ne0.false }, (part.0, part.1, part.2, part.3, part.4))
