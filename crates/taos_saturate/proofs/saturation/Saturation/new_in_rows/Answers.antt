use Rattle.std.proofs.Common.{ℕ, below_more, arith}
use Rattle.taos_saturate.specs.Saturating.{IsNumber, SpeaksFull}
use Rattle.taos_saturate.proofs.saturation.Saturation.new_in_rows.Goals as goal

pub loop-k-preserved : goal.loop-k-preserved
loop-k-preserved c = below_more (λ m. (r : ℕ) → IsNumber c.args.self.now r → SpeaksFull c.args.self.now m r) c.loop-k.k c.loop-k.invariant c.in_default.ensures

pub returns : goal.returns
returns c = λ l r h k. c.loop-k.invariant l (omega (arith, h, c.args.self.now.nodes.ok.0)) r k
