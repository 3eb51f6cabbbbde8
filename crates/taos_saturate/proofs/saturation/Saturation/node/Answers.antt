use Rattle.std.proofs.Common.{Some, length, ap, sym, ◌∙◌}
use Rattle.std.proofs.lemmas.Option.{slice_get-get_or}
use Rattle.taos_calculus.specs.declared.line.Node.{Node}
use Rattle.taos_calculus.proofs.Naming.{operands_below}
use Rattle.taos_saturate.proofs.saturation.Saturation.node.Goals as goal

pub returns-clause-operands : goal.returns-clause-operands
returns-clause-operands c =
    operands_below c.args.id (length c.args.self.now.nodes.items) c.index.result.now
    (c.requires.ready.table.ordered c.args.id c.index.result.now
    (slice_get-get_or c.args.self.now.nodes.items c.args.id c.index.result.now c.requires.id_in ∙ ap (λ (n : Node). Some n) (sym c.index.ensures)))
    c.requires.id_in
