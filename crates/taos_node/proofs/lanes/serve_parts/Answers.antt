-- what the lanes did, with what is printed
use Rattle.std.proofs.Common.{refl}
use Rattle.std.proofs.KnownBytes.{Keeps-refl}
use Rattle.taos_lanes.specs.Parts.{node_in}
use Rattle.taos_lanes.specs.Serving.{left_by}
use Rattle.taos_node.specs.Lanes.{served, unserved}
use Rattle.taos_node.proofs.lanes.serve_parts.Goals as goal

pub returns-in-Ok-clause-serves : goal.returns-in-Ok-clause-serves
returns-in-Ok-clause-serves g c = λ o is.
    served (left_by c.in-Ok.served) (record { node = node_in c.args.parts; is_node = is; serves = c.in-Ok.ensures.served }) c.print.ensures.prints

pub returns-in-Err-clause-serves : goal.returns-in-Err-clause-serves
returns-in-Err-clause-serves g c = λ o is. unserved refl c.in-Err.ensures.unserved (Keeps-refl (g.O.Sink.shown c.args.output.now).told)
