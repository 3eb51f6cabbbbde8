use Rattle.std.proofs.Common.{◌≡◌, length}
use Rattle.audit_replay.proofs.SameLists.{Agree}
use Rattle.audit_replay.proofs.ruling.are_same.Given as goal

abbrev pub invariant-loop-place : goal.invariant-loop-place
invariant-loop-place l = record {
  long : length l.list ≡ length l.other;
  agree : Agree l.list l.other l.place;
}
