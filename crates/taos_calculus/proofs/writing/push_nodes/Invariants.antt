use Rattle.std.proofs.Common.{◌≡◌, ◌++◌, ◌≤◌, vec_capacity, take}
use Rattle.std.specs.List.{flat_map}
use Rattle.taos_calculus.specs.Spelling.{node_bytes}
use Rattle.taos_calculus.proofs.writing.push_nodes.Given as goal

abbrev pub invariant-loop-node : goal.invariant-loop-node
invariant-loop-node l = record {
  so_far : l.out.items ≡ l.initial.out.items ++ flat_map node_bytes (take l.node-index l.nodes);
  capacity : vec_capacity l.initial.out ≤ vec_capacity l.out;
}
