use Rattle.std.specs.Prelude.{All, take}
use Rattle.journal_bytes.specs.Numbers.{HasLineNumbers}
use Rattle.journal_bytes.proofs.numbers.lines_fit.Given as goal

abbrev pub invariant-loop-line : goal.invariant-loop-line
invariant-loop-line l = All (HasLineNumbers) (take l.line-index l.lines)
