use Rattle.std.proofs.Common.{◌≡◌, ◌≤◌, ◌++◌, length}
use Rattle.audit_replay.proofs.ObjectsComing.{ObjectsRead}
use Rattle.audit_replay.proofs.objects.rule_objects.Given as goal

abbrev pub invariant-loop-object : goal.invariant-loop-object
invariant-loop-object l = record {
  read : ObjectsRead l.bytes (length l.fn.objects.items) l.at l.fn.shards l.fn.progress l.yielded l.next l.shards l.progress l.least;
  left : l.yielded ++ l.object-iterator.rest.items ≡ l.fn.objects.items;
  within : (l.progress.entries ≤ l.next) × (l.next ≤ length l.bytes);
}
