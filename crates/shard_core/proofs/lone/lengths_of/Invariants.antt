use Rattle.std.proofs.Common.{◌≡◌, length, map, take}
use Rattle.std.specs.Prelude.{All}
use Rattle.shard_core.specs.Alone.{HasLegalJournal}
use Rattle.agent_core.specs.Journals.{ShardSeen}
use Rattle.shard_core.proofs.lone.lengths_of.Given as goal

abbrev pub invariant-loop-number : goal.invariant-loop-number
invariant-loop-number l =
    (l.lengths.items ≡ map (λ (s : ShardSeen). length s.journal) (take l.number l.shards)) × All HasLegalJournal (take l.number l.shards)
