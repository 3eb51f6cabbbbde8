use Rattle.std.proofs.Common.{◌≡◌, drop}
use Rattle.prin_text.specs.Words.{value_after}
use Rattle.prin_text.proofs.words.fitting.Given as goal

-- the digits so far are a number of 32 bits
abbrev pub invariant-loop-digit : goal.invariant-loop-digit
invariant-loop-digit l = value_after l.number (drop l.digit-index l.digits) ≡ value_after 0 l.digits
