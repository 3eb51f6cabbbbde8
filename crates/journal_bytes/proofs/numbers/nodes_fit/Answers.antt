use Rattle.std.proofs.Common.{arith, subst}
use Rattle.std.specs.Prelude.{All}
use Rattle.std.proofs.lemmas.List.{take_all}
use Rattle.std.proofs.lemmas.List.Elements.{All-more}
use Rattle.taos_calculus.specs.Spells.{NodeFits}
use Rattle.journal_bytes.proofs.numbers.nodes_fit.Goals as goal

pub loop-node-preserved : goal.loop-node-preserved
loop-node-preserved c = All-more NodeFits c.args.nodes.now c.loop-node.node-index _ c.loop-node-test.true c.loop-node.invariant c.node_fits.ensures

pub returns : goal.returns
returns c = subst (All NodeFits) (take_all c.loop-node.node-index c.args.nodes.now (omega (arith, c.loop-node-test.false))) c.loop-node.invariant
