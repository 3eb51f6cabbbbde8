use Rattle.std.proofs.Common.{◌≡◌, ◌≤◌, ◌-◌, length}
use Rattle.prin_text.specs.Tokens.{tokens_from}
use Rattle.prin_text.proofs.tokens.skip_blanks.Given as goal

abbrev pub invariant-loop-start : goal.invariant-loop-start
invariant-loop-start l = record {
  from : l.at ≤ l.start;
  within : l.start ≤ length l.bytes;
  same : tokens_from l.bytes l.start ≡ tokens_from l.bytes l.at;
}

abbrev pub decreases-loop-start : goal.decreases-loop-start
decreases-loop-start l = length l.bytes - l.start
