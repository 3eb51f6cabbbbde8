use Rattle.std.proofs.lemmas.Bool.{false≢true}
use Rattle.taos_calculus.specs.Tables.{parts_of}
use Rattle.taos_calculus.proofs.Distinct.{canonical_nodes}
use Rattle.taos_calculus.proofs.proof.Proof.from_parts.Goals as goal

-- a canonical table is a table of nodes
pub returns-then-not-is_node_table-clause-made : goal.returns-then-not-is_node_table-clause-made
returns-then-not-is_node_table-clause-made c = (
  λ f. absurd (false≢true f),
  λ p. c.if-not-is_node_table.ensures.1 (rw c.deref.ensures.value (canonical_nodes (parts_of c.args.nodes.items c.args.lines.items) p.canonical)),
)
