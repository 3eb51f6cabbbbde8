use Rattle.std.proofs.Common.{sym, ◌∙◌, arith}
use Rattle.prin_text.proofs.WordLaws.{begins_front, more_in_front, front_ends, behind_begins, front_whole, behind_none}
use Rattle.prin_text.proofs.lines.word.word_end.Goals as goal

pub loop-end-init : goal.loop-end-init
loop-end-init c = begins_front c.args.line.now

pub loop-end-preserved : goal.loop-end-preserved
loop-end-preserved c = more_in_front c.args.line.now c.loop-end.end c.loop-end.invariant c.loop-end-test.true (sym c.is_inner.ensures ∙ c.if-is_inner.true)

pub returns-else-is_inner-clause-front : goal.returns-else-is_inner-clause-front
returns-else-is_inner-clause-front c = front_ends c.args.line.now c.loop-end.end c.loop-end.invariant (omega arith) (sym c.is_inner.ensures ∙ c.if-is_inner.false)

pub returns-else-is_inner-clause-behind : goal.returns-else-is_inner-clause-behind
returns-else-is_inner-clause-behind c = behind_begins c.args.line.now c.loop-end.end c.loop-end.invariant (omega arith) (sym c.is_inner.ensures ∙ c.if-is_inner.false)

pub returns-after-loop-end-clause-front : goal.returns-after-loop-end-clause-front
returns-after-loop-end-clause-front c = front_whole c.args.line.now c.loop-end.end c.loop-end.invariant (omega arith)

pub returns-after-loop-end-clause-behind : goal.returns-after-loop-end-clause-behind
returns-after-loop-end-clause-behind c = behind_none c.args.line.now c.loop-end.end c.loop-end.invariant (omega arith)
