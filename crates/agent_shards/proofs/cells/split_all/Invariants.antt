use Rattle.std.proofs.Common.{◌≡◌, ◌≤◌, ◌<◌, length, vec_capacity, vec_len}
use Rattle.turn_cell.specs.Known.{IsPassOf}
use Rattle.agent_shards.specs.Cells.{IsSplit}
use Rattle.agent_shards.proofs.Rows.{Turning}
use Rattle.agent_shards.proofs.cells.split_all.Given as goal

abbrev pub invariant-loop-cell : goal.invariant-loop-cell
invariant-loop-cell g l = record {
  turning : Turning (λ cell pass. IsPassOf cell pass × (l.shares < pass.shares)) (IsSplit l.shares) l.cells l.cell-index l.initial.passes.items l.passes.items l.given.items;
  room : length l.cells ≤ vec_capacity l.given;
  count : vec_len l.given ≡ l.cell-index;
}
