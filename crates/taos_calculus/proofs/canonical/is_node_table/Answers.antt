use Rattle.std.proofs.Common.{refl, arith}
use Rattle.std.proofs.lemmas.Bool.{false≢true}
use Rattle.taos_calculus.proofs.Placing.{placed_table, placed_more, not_placed}
use Rattle.taos_calculus.proofs.canonical.is_node_table.Goals as goal

pub loop-i-preserved : goal.loop-i-preserved
loop-i-preserved c = placed_more c.args.nodes.now c.loop-i.i c.loop-i.invariant c.if-not-is_placed.ensures

pub returns : goal.returns
returns c = (λ t. placed_table c.args.nodes.now (λ k node h e. c.loop-i.invariant k node (omega arith) e), λ t. refl)

pub returns-then-not-is_placed : goal.returns-then-not-is_placed
returns-then-not-is_placed c = (
  λ f. absurd (false≢true f),
  not_placed c.args.nodes.now c.loop-i.i c.loop-i-test.true c.if-not-is_placed.ensures,
)
