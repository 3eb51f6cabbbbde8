-- One of each end so far.
use Rattle.std.specs.Prelude.{◌≡◌, ◌+◌, length, vec_len}
use Rattle.edge.proofs.doors.merged_of.Given as goal

abbrev pub invariant-loop-end : goal.invariant-loop-end
invariant-loop-end l = vec_len l.doorways + length l.end-iterator.rest.items ≡ vec_len l.fn.ends
