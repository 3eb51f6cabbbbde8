use Rattle.std.proofs.Common.{◌-◌, length}
use Rattle.prin_text.proofs.WordLaws.{IsInFront}
use Rattle.prin_text.proofs.lines.word.word_end.Given as goal

abbrev pub invariant-loop-end : goal.invariant-loop-end
invariant-loop-end l = IsInFront l.line l.end

abbrev pub decreases-loop-end : goal.decreases-loop-end
decreases-loop-end l = length l.line - l.end
