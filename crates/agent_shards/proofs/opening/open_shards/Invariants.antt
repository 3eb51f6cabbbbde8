use Rattle.std.proofs.Common.{◌≡◌, ◌++◌}
use Rattle.agent_shards.specs.Shards.{AreShardsOpened}
use Rattle.agent_shards.proofs.opening.open_shards.Given as goal

abbrev pub invariant-loop-shard : goal.invariant-loop-shard
invariant-loop-shard l = record {
  opened : AreShardsOpened l.yielded l.cells.items l.passes.items;
  left : l.yielded ++ l.shard-iterator.rest.items ≡ l.fn.shards.items;
}
