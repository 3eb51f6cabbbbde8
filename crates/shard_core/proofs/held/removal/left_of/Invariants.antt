use Rattle.std.proofs.Common.{◌≡◌, ◌≤◌, length, filter, take}
use Rattle.shard_core.specs.Kept.{name_stays}
use Rattle.shard_core.proofs.held.removal.left_of.Given as goal

abbrev pub invariant-loop-place : goal.invariant-loop-place
invariant-loop-place l = record {
  left_is : l.left.items ≡ filter (name_stays l.book l.removal) (take l.place l.names.items);
  few : length l.left.items ≤ l.place;
}
