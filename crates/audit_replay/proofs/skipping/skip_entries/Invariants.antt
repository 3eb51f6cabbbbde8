use Rattle.std.proofs.Common.{◌+◌, ◌≤◌, List, length}
use Rattle.journal_bytes.specs.Reading.{entry_at}
use Rattle.journal_bytes.specs.Spelled.{SpelledEntry}
use Rattle.audit_replay.proofs.Passing.{HasRead}
use Rattle.audit_replay.proofs.skipping.skip_entries.Given as goal

abbrev pub invariant-loop : goal.invariant-loop
invariant-loop l = record {
  read : HasRead (λ (_ : List SpelledEntry). entry_at l.bytes) l.count l.at l.counter l.next (λ _. Unit {0});
  room : l.at + l.counter ≤ l.next;
  within : l.next ≤ length l.bytes;
}
