use Rattle.std.specs.Prelude.{◌≡◌, ◌+◌, length, vec_len}
use Rattle.taosd.proofs.lanes.lanes_of.Given as goal

-- one of each so far, and the other parts are left
abbrev pub invariant-loop-part : goal.invariant-loop-part
invariant-loop-part g l = vec_len l.lanes + length l.part-iterator.rest.items ≡ vec_len l.fn.doorways
