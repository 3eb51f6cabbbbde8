-- one cell more, of the next shard
use Rattle.agent_shards.specs.Shards.{IsShardOpened}
use Rattle.agent_shards.proofs.Rows.{each3_next, left_next}
use Rattle.agent_shards.proofs.opening.open_shards.Goals as goal

pub loop-shard-preserved : goal.loop-shard-preserved
loop-shard-preserved c = let i = c.loop-shard.invariant in record {
  opened = each3_next IsShardOpened c.loop-shard.yielded c.loop-shard.cells.items c.push.new.self.items c.loop-shard.passes.items c.push-in-loop-shard.new.self.items
      c.in-Some.shard c.in_ok-cell.cell c.in_ok-cell.pass i.opened c.in_ok-push.ensures.items c.in_ok-push-2.ensures.items c.in_ok-cell.ensures;
  left = left_next c.loop-shard.yielded c.in-Some.shard c.loop-shard.shard-iterator.rest.items c.next.new.self.rest.items c.args.shards.items c.in-Some.ensures.steps.0 i.left;
}
