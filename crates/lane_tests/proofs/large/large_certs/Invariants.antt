use Rattle.std.proofs.Common.{◌≡◌, length}
use Rattle.lane_tests.proofs.large.large_certs.Given as goal

abbrev pub invariant-loop-place : goal.invariant-loop-place
invariant-loop-place l = length l.certs.items ≡ l.place
