use Rattle.std.proofs.Common.{◌+◌, ◌≤◌, List, length}
use Rattle.journal_bytes.specs.Reading.{ruled_at}
use Rattle.object_core.specs.Objects.{ObjectEntry}
use Rattle.audit_replay.proofs.Passing.{HasRead}
use Rattle.audit_replay.proofs.skipping.skip_ruled.Given as goal

abbrev pub invariant-loop : goal.invariant-loop
invariant-loop l = record {
  read : HasRead (λ (_ : List ObjectEntry). ruled_at l.bytes) l.count l.at l.counter l.next (λ _. Unit {0});
  room : l.at + l.counter ≤ l.next;
  within : l.next ≤ length l.bytes;
}
