use Rattle.std.proofs.Common.{sym, ◌∙◌, arith}
use Rattle.prin_text.proofs.WordLaws.{blank_off}
use Rattle.prin_text.proofs.lines.word.unblanked.Goals as goal

pub loop-at-preserved : goal.loop-at-preserved
loop-at-preserved c = record {
  within = omega arith;
  same = blank_off c.args.line.now c.loop-at.at c.loop-at-test.true (sym c.is_blank.ensures ∙ c.if-is_blank.true) ∙ c.loop-at.invariant.same;
}
