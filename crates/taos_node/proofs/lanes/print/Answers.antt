-- the line is that of what the lanes left
use Rattle.std.proofs.Common.{subst, ◌∙◌}
use Rattle.taos_node.specs.Lanes.{PrintsLine}
use Rattle.taos_node.proofs.lanes.print.Goals as goal

pub returns-clause-prints : goal.returns-clause-prints
returns-clause-prints g c =
    subst (λ text. PrintsLine c.args.served.now.total text (g.O.Sink.shown c.args.output.now).told (g.O.Sink.shown c.print_line.new.output).told c.print_line.result) (c.deref.ensures.0 ∙ c.lanes_line.ensures) c.print_line.ensures.prints
