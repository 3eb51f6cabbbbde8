use Rattle.taos_calculus.proofs.Distinct.{canonical_nodes}
use Rattle.taos_calculus.proofs.proof.Proof.node_is.Goals as goal

pub node_is-requires-clause-table : goal.node_is-requires-clause-table
node_is-requires-clause-table c = rw c.nodes-nodes.ensures.value (canonical_nodes c.args.self.now c.nodes-nodes.ensures.kept.canonical)
