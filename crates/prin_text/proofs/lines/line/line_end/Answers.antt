use Rattle.std.proofs.Common.{sym, ◌∙◌}
use Rattle.prin_text.proofs.LineLaws.{begins_line, feed_is, more_in_line}
use Rattle.prin_text.proofs.lines.line.line_end.Goals as goal

pub loop-end-init : goal.loop-end-init
loop-end-init c = begins_line c.args.bytes.now c.args.at c.requires

pub loop-end-preserved : goal.loop-end-preserved
loop-end-preserved c = more_in_line c.args.bytes.now c.args.at c.loop-end.end c.loop-end.invariant c.loop-end-test.true (sym c.goes_on.ensures ∙ c.if-goes_on.true)

pub returns-else-goes_on-clause-ends : goal.returns-else-goes_on-clause-ends
returns-else-goes_on-clause-ends c = λ lt. feed_is _ (sym c.goes_on.ensures ∙ c.if-goes_on.false)
