-- what the lanes counted tells what they answered, and the line is that of what they left
use Rattle.std.proofs.Common.{sym, subst, ◌∙◌}
use Rattle.std.specs.Io.KnownBytes.{Appends}
use Rattle.taos_lanes.specs.Serving.{left_by}
use Rattle.node_commands.specs.Words.{drill_words}
use Rattle.taos_node.proofs.DrillRuns.{came}
use Rattle.taos_node.proofs.drills.serving.drill.Goals as goal

pub returns-in-Ok-pour-clause-drills : goal.returns-in-Ok-pour-clause-drills
returns-in-Ok-pour-clause-drills g c =
    let left = left_by c.in-Ok.served in (
      left,
      came (drill_words c.args.asked) (record { few_requests = c.requires.few_requests; some_lanes = c.requires.some_lanes; few_lanes = c.requires.few_lanes }) c.loads_are_counted.ensures left c.in-Ok.ensures c.if-total.false c.if-total-ne0.false c.if-total-ne0-2.false,
      subst (Appends (g.O.Sink.shown c.args.output.now).told (g.O.Sink.shown c.pour.new.sink).told) (c.deref.ensures.0 ∙ c.drill_line.ensures) c.in-Ok-pour.ensures.all,
    )

pub returns-clause-drills : goal.returns-clause-drills
returns-clause-drills g c =
    let left = left_by c.in-Ok.served in
    let part = c.in-Err.ensures.part in (
      left,
      came (drill_words c.args.asked) (record { few_requests = c.requires.few_requests; some_lanes = c.requires.some_lanes; few_lanes = c.requires.few_lanes }) c.loads_are_counted.ensures left c.in-Ok.ensures c.if-total.false c.if-total-ne0.false c.if-total-ne0-2.false,
      (part.0, part.1, sym (c.deref.ensures.0 ∙ c.drill_line.ensures) ∙ part.2, part.3, part.4),
    )
