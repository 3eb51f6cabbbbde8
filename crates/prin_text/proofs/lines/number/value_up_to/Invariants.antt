use Rattle.std.proofs.Common.{◌≡◌, ◌≤◌, drop}
use Rattle.prin_text.specs.Words.{value_after}
use Rattle.prin_text.proofs.lines.number.value_up_to.Given as goal

-- the digits so far are a number that is not above the most
abbrev pub invariant-loop-digit : goal.invariant-loop-digit
invariant-loop-digit l = record {
  value : value_after l.number (drop l.digit-index l.digits) ≡ value_after 0 l.digits;
  small : l.number ≤ l.most;
}
