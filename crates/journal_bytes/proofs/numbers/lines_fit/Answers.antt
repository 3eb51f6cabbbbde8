use Rattle.std.proofs.Common.{arith, subst}
use Rattle.std.specs.Prelude.{All}
use Rattle.std.proofs.lemmas.List.{take_all}
use Rattle.std.proofs.lemmas.List.Elements.{All-more}
use Rattle.journal_bytes.specs.Numbers.{HasLineNumbers}
use Rattle.journal_bytes.proofs.numbers.lines_fit.Goals as goal

pub loop-line-preserved : goal.loop-line-preserved
loop-line-preserved c = All-more HasLineNumbers c.args.lines.now c.loop-line.line-index _ c.loop-line-test.true c.loop-line.invariant c.step_fits.ensures

pub returns : goal.returns
returns c = subst (All HasLineNumbers) (take_all c.loop-line.line-index c.args.lines.now (omega (arith, c.loop-line-test.false))) c.loop-line.invariant
