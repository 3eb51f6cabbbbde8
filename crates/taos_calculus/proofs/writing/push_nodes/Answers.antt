use Rattle.std.proofs.lemmas.Result.{err_from_is_err_and}
use Rattle.taos_calculus.specs.Spelling.{node_bytes}
use Rattle.taos_calculus.proofs.Written.{not_all}
use Rattle.taos_calculus.proofs.writing.push_nodes.Goals as goal

pub returns-in_err-push_node : goal.returns-in_err-push_node
returns-in_err-push_node c =
    let p = err_from_is_err_and c.from_residual.result c.from_residual.ensures.1 in
    rw p.1 (not_all node_bytes c.args.nodes.now c.loop-node.node-index _ c.args.out.now c.loop-node.out c.push_node.new.out _ _
    c.loop-node-test.true c.loop-node.invariant.so_far c.loop-node.invariant.capacity c.in_err-push_node.ensures)
