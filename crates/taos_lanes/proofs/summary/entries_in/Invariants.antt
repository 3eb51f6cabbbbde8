use Rattle.std.proofs.Common.{◌≡◌, ◌*◌, ◌^◌, ◌≤◌, take}
use Rattle.taos_lanes.specs.Summary.{entries_of}
use Rattle.taos_lanes.proofs.summary.entries_in.Given as goal

abbrev pub invariant-loop-shard : goal.invariant-loop-shard
invariant-loop-shard l = (l.count ≡ entries_of (take l.shard-index l.fn.shards)) × (l.count ≤ l.shard-index * 2 ^ 64)
