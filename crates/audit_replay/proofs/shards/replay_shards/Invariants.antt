use Rattle.std.proofs.Common.{◌≡◌, ◌≤◌, ◌++◌, length}
use Rattle.audit_replay.proofs.ShardsComing.{ShardsRead}
use Rattle.audit_replay.proofs.shards.replay_shards.Given as goal

abbrev pub invariant-loop-shard : goal.invariant-loop-shard
invariant-loop-shard g l = record {
  read : ShardsRead l.bytes l.fn.shards.items l.at (length l.yielded) l.next l.replayed.items l.progress;
  left : l.yielded ++ l.shard-iterator.rest.items ≡ l.fn.shards.items;
  few : length l.replayed.items ≤ length l.yielded;
  within : (l.progress.entries ≤ l.next) × (l.next ≤ length l.bytes);
}
