use Rattle.std.proofs.Common.{◌≡◌, ◌≤◌, length}
use Rattle.prin_text.proofs.table.Table.row_at.Given as goal

-- the rows before the place are gone over
abbrev pub invariant-loop-number : goal.invariant-loop-number
invariant-loop-number l = record {
  count : l.at ≡ length l.yielded;
  within : l.at ≤ l.place;
}
