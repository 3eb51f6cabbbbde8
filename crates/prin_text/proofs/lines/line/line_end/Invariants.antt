use Rattle.std.proofs.Common.{◌-◌, length}
use Rattle.prin_text.proofs.LineLaws.{IsInLine}
use Rattle.prin_text.proofs.lines.line.line_end.Given as goal

abbrev pub invariant-loop-end : goal.invariant-loop-end
invariant-loop-end l = IsInLine l.bytes l.at l.end

abbrev pub decreases-loop-end : goal.decreases-loop-end
decreases-loop-end l = length l.bytes - l.end
