use Rattle.std.proofs.Common.{◌≡◌, Some, slice_get, below_more, arith}
use Rattle.term_pool.specs.declared.found.Pair.{Pair}
use Rattle.taos_saturate.specs.Saturating.{SaysFull, LiftFull}
use Rattle.taos_saturate.proofs.saturation.Saturation.new_in_statement.Goals as goal

pub loop-k-preserved : goal.loop-k-preserved
loop-k-preserved c = below_more
    (λ m. (p : Pair) → slice_get c.args.self.now.found.statements.items c.args.place ≡ Some p → SaysFull c.args.self.now m p × LiftFull c.args.self.now m p)
    c.loop-k.k c.loop-k.invariant c.in_default.ensures

pub returns : goal.returns
returns c = λ w h. c.loop-k.invariant w (omega (arith, h, c.args.self.now.nodes.ok.0))
