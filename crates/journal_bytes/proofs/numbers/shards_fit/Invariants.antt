use Rattle.std.specs.Prelude.{All, take}
use Rattle.agent_core.specs.Journals.{ShardSeen}
use Rattle.journal_bytes.specs.Limits.{AsksWithin, FitsShard}
use Rattle.journal_bytes.specs.Spelled.{shard_spelled}
use Rattle.journal_bytes.proofs.numbers.shards_fit.Given as goal

abbrev pub invariant-loop-shard : goal.invariant-loop-shard
invariant-loop-shard l = All (λ (s : ShardSeen). AsksWithin s → FitsShard (shard_spelled s)) (take l.shard-index l.shards)
