use Rattle.std.proofs.Common.{◌≡◌, ◌+◌, ◌≤◌, List, length}
use Rattle.object_core.specs.Objects.{ObjectEntry}
use Rattle.object_core.specs.Shelving.{fixed_of}
use Rattle.journal_bytes.specs.Reading.{ruled_at}
use Rattle.audit_replay.proofs.Passing.{HasRead, Ruled}
use Rattle.audit_replay.proofs.objects.rule_entries.Given as goal

abbrev pub invariant-loop : goal.invariant-loop
invariant-loop l = record {
  read : HasRead (λ (_ : List ObjectEntry). ruled_at l.bytes) l.count l.at l.counter l.next (Ruled l.fn.shards l.shards l.fn.object l.object l.fall);
  fixed : fixed_of l.object ≡ fixed_of l.fn.object;
  room : l.at + l.counter ≤ l.next;
  within : l.next ≤ length l.bytes;
}
