use Rattle.std.proofs.Common.{◌≤◌, List, length}
use Rattle.journal_bytes.specs.JournalsReading.{shard_at}
use Rattle.journal_bytes.specs.Spelled.{SpelledEntry}
use Rattle.audit_replay.proofs.Passing.{HasRead}
use Rattle.audit_replay.proofs.skipping.skip_shards.Given as goal

abbrev pub invariant-loop : goal.invariant-loop
invariant-loop l = record {
  read : HasRead (λ (_ : List (List SpelledEntry)). shard_at l.bytes) l.count l.at l.counter l.next (λ _. Unit {0});
  within : l.next ≤ length l.bytes;
}
