use Rattle.std.proofs.Common.{below_more, arith}
use Rattle.taos_saturate.specs.Saturating.{SpeaksFull}
use Rattle.taos_saturate.proofs.saturation.Saturation.new_in_row.Goals as goal

pub loop-k-preserved : goal.loop-k-preserved
loop-k-preserved c = below_more (λ m. SpeaksFull c.args.self.now c.args.left m) c.loop-k.k c.loop-k.invariant c.in_default.ensures

pub returns : goal.returns
returns c = λ r h. c.loop-k.invariant r (omega (arith, h, c.args.self.now.nodes.ok.0))
