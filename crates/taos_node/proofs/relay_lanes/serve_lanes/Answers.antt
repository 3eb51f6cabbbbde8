-- what the lanes did, with what is printed
use Rattle.std.proofs.Common.{subst, ◌∙◌}
use Rattle.taos_node.specs.Lanes.{PrintsLine}
use Rattle.taos_node.proofs.relay_lanes.serve_lanes.Goals as goal

pub returns-clause-serves : goal.returns-clause-serves
returns-clause-serves g c = λ r is. record {
  table = c.args.relay.now.table;
  is_relay = record { issuers = is.issuers; nodes = is.nodes };
  total = c.serve_relays-total.result;
  serves = c.serve_relays-total.ensures;
  prints = subst (λ text. PrintsLine c.serve_relays-total.result text (g.O.Sink.shown c.args.output.now).told (g.O.Sink.shown c.print_line.new.output).told c.print_line.result) (c.deref.ensures.0 ∙ c.relays_line.ensures) c.print_line.ensures.prints;
}
