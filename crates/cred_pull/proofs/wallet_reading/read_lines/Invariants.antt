use Rattle.std.proofs.Common.{◌≡◌, ◌+◌, ◌-◌, ◌≤◌, List, [], Option, None, length, map}
use Rattle.std.specs.Prelude.{codes}
use Rattle.prin_text.specs.FileLines.{first_or, is_first_line, lines_make}
use Rattle.prin_text.specs.Lines.{lines_from}
use Rattle.cred_pull.specs.WalletFile.{AreShort, WalletRow, wallet_step}
use Rattle.cred_pull.specs.WalletView.{StandSoFar, row_of}
use Rattle.cred_pull.proofs.wallet_reading.read_lines.Given as goal

-- the lines before the offset are taken, and those behind it make the rest
abbrev pub invariant-loop-at : goal.invariant-loop-at
invariant-loop-at l = record {
  so_far : Option (List WalletRow);
  stands : StandSoFar l.begun l.lines.items so_far;
  same : lines_make (first_or (is_first_line (codes "taos-wallet")) [] wallet_step) (l.number + 1) so_far (lines_from l.bytes l.at)
      ≡ lines_make (first_or (is_first_line (codes "taos-wallet")) [] wallet_step) 1 None (lines_from l.bytes 0);
  count : l.number + length (lines_from l.bytes l.at) ≡ length (lines_from l.bytes 0);
  within : l.at ≤ length l.bytes;
  small : l.number ≤ l.at;
  short : AreShort (map row_of l.lines.items);
}

abbrev pub decreases-loop-at : goal.decreases-loop-at
decreases-loop-at l = length l.bytes - l.at
