use Rattle.std.proofs.Common.{◌≡◌, ℕ, ◌<◌, Some, slice_get}
use Rattle.taos_calculus.specs.declared.line.Node.{Node}
use Rattle.taos_calculus.specs.Walking.{IsPlaced}
use Rattle.taos_calculus.proofs.canonical.is_node_table.Given as goal

abbrev pub invariant-loop-i : goal.invariant-loop-i
invariant-loop-i l = (k : ℕ) (node : Node) → k < l.i → slice_get l.nodes k ≡ Some node → IsPlaced l.nodes k node
