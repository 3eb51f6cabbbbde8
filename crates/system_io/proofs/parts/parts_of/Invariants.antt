use Rattle.std.specs.Prelude.{◌≡◌, ◌+◌, length, vec_len}
use Rattle.system_io.proofs.parts.parts_of.Given as goal

-- one for each door so far, and the other doors are left
abbrev pub invariant-loop-doorway : goal.invariant-loop-doorway
invariant-loop-doorway g l = vec_len l.parts + length l.doorway-iterator.rest.items ≡ vec_len l.fn.doorways
