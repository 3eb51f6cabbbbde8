use Rattle.std.proofs.Common.{◌≡◌, ◌≤◌, length, vec_capacity, vec_len}
use Rattle.agent_shards.specs.Objects.{IsObjectClosed}
use Rattle.agent_shards.proofs.Rows.{Closing}
use Rattle.agent_shards.proofs.Shelves.{IsLastObject}
use Rattle.agent_shards.proofs.shelving.close_objects.Given as goal

abbrev pub invariant-loop-cell : goal.invariant-loop-cell
invariant-loop-cell l = record {
  closing : Closing IsLastObject IsObjectClosed l.yielded l.cell-iterator.rest.items l.fn.cells.items l.fn.passes.items l.passes.items l.objects.items;
  count : vec_len l.objects ≡ length l.yielded;
  room : length l.fn.cells.items ≤ vec_capacity l.objects;
}
