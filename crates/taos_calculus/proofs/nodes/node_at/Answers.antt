use Rattle.std.proofs.Common.{slice_index_or}
use Rattle.std.proofs.lemmas.Option.{slice_get-get_or}
use Rattle.taos_calculus.specs.declared.line.Node.{Node}
use Rattle.taos_calculus.proofs.Naming.{named_reads, operands_below}
use Rattle.taos_calculus.proofs.nodes.node_at.Goals as goal

pub returns-clause-reads : goal.returns-clause-reads
returns-clause-reads c =
    named_reads c.args.nodes.now c.requires.table c.args.id (slice_index_or c.args.nodes.now c.args.id (Node.Key 0))
    (slice_get-get_or c.args.nodes.now c.args.id (Node.Key 0) c.requires.id_in)

pub returns-clause-operands : goal.returns-clause-operands
returns-clause-operands c =
    operands_below c.args.id _ (slice_index_or c.args.nodes.now c.args.id (Node.Key 0))
    (c.requires.table.ordered c.args.id (slice_index_or c.args.nodes.now c.args.id (Node.Key 0)) (slice_get-get_or c.args.nodes.now c.args.id (Node.Key 0) c.requires.id_in))
    c.requires.id_in
