use Rattle.std.proofs.Common.{◌-◌, length}
use Rattle.prin_text.proofs.Scans.{IsInWord}
use Rattle.prin_text.proofs.tokens.token_end.Given as goal

abbrev pub invariant-loop-end : goal.invariant-loop-end
invariant-loop-end l = IsInWord l.bytes l.start l.end

abbrev pub decreases-loop-end : goal.decreases-loop-end
decreases-loop-end l = length l.bytes - l.end
