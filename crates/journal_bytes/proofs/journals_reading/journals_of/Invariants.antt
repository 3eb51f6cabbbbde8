use Rattle.std.proofs.Common.{◌≤◌, [], map, length}
use Rattle.byte_fields.specs.Readers.{items_behind}
use Rattle.byte_fields.proofs.Loops.{IsSoFar}
use Rattle.journal_bytes.specs.View.{shard_seen}
use Rattle.journal_bytes.specs.JournalsReading.{shard_at}
use Rattle.journal_bytes.proofs.journals_reading.journals_of.Given as goal

abbrev pub invariant-loop : goal.invariant-loop
invariant-loop l = record {
  so_far : IsSoFar (λ _. shard_at l.bytes) l.count l.counter (map shard_seen l.shards.items) l.next (items_behind (λ _. shard_at l.bytes) l.count [] l.at);
  within : l.next ≤ length l.bytes;
}
