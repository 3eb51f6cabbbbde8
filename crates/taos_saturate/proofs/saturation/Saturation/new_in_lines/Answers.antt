use Rattle.std.proofs.Common.{below_more, arith}
use Rattle.taos_saturate.specs.Saturating.{LineFull}
use Rattle.taos_saturate.proofs.saturation.Saturation.new_in_lines.Goals as goal

pub loop-number-preserved : goal.loop-number-preserved
loop-number-preserved c = below_more (λ m. LineFull c.args.self.now m) c.loop-number.number c.loop-number.invariant c.in_default.ensures

pub returns : goal.returns
returns c = λ k h. c.loop-number.invariant k (omega (arith, h, c.args.self.now.found.lines.ok.0))
