use Rattle.std.proofs.Common.{◌≡◌, ◌+◌, ◌≤◌, length}
use Rattle.turn_cell.specs.Known.{IsPassOf}
use Rattle.lane_tests.proofs.cells.add_all.Given as goal

abbrev pub invariant-loop : goal.invariant-loop
invariant-loop g l = record {
  cell : IsPassOf l.cell l.pass;
  shares : l.pass.shares ≡ l.initial.pass.shares;
  added : length l.pass.own ≡ length l.initial.pass.own + l.done;
  few : l.done ≤ l.counter;
}
