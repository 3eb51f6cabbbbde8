use Rattle.std.proofs.Common.{◌≡◌, ◌≤◌, length, vec_capacity, vec_len}
use Rattle.agent_shards.specs.Shards.{IsShardClosed}
use Rattle.agent_shards.proofs.Rows.{Closing}
use Rattle.agent_shards.proofs.Seats.{IsLast}
use Rattle.agent_shards.proofs.opening.close_shards.Given as goal

abbrev pub invariant-loop-cell : goal.invariant-loop-cell
invariant-loop-cell l = record {
  closing : Closing IsLast IsShardClosed l.yielded l.cell-iterator.rest.items l.fn.cells.items l.fn.passes.items l.passes.items l.shards.items;
  count : vec_len l.shards ≡ length l.yielded;
  room : length l.fn.cells.items ≤ vec_capacity l.shards;
}
