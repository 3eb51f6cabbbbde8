use Rattle.std.proofs.Common.{◌≤◌, length}
use Rattle.journal_bytes.specs.JournalsReading.{IsLeastAbove, object_at}
use Rattle.audit_replay.proofs.Passing.{HasRead}
use Rattle.audit_replay.proofs.skipping.skip_objects.Given as goal

abbrev pub invariant-loop : goal.invariant-loop
invariant-loop l = record {
  read : HasRead (object_at l.bytes) l.count l.at l.counter l.next (IsLeastAbove l.least);
  within : l.next ≤ length l.bytes;
}
