use Rattle.std.specs.Prelude.{All, take}
use Rattle.taos_calculus.specs.Spells.{NodeFits}
use Rattle.journal_bytes.proofs.numbers.nodes_fit.Given as goal

abbrev pub invariant-loop-node : goal.invariant-loop-node
invariant-loop-node l = All (NodeFits) (take l.node-index l.nodes)
