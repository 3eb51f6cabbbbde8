use Rattle.std.proofs.Common.{◌-◌, length, sym, arith}
use Rattle.prin_text.proofs.LineLaws.{unreturned-last, unreturned-none, unreturned-other}
use Rattle.prin_text.proofs.lines.line.unreturned.Goals as goal

pub returns-then-len-eq0 : goal.returns-then-len-eq0
returns-then-len-eq0 c = sym (unreturned-none c.args.line.now (omega arith))

pub returns-then-line-len-eq13 : goal.returns-then-line-len-eq13
returns-then-line-len-eq13 c = sym (unreturned-last c.args.line.now (length c.args.line.now - 1) (omega arith) c.if-line-len-eq13.true)

pub returns-else-line-len-eq13 : goal.returns-else-line-len-eq13
returns-else-line-len-eq13 c = sym (unreturned-other c.args.line.now (length c.args.line.now - 1) (omega arith) c.if-line-len-eq13.false)
