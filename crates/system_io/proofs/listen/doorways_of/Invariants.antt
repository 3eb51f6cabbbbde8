use Rattle.std.specs.Prelude.{◌≡◌, vec_len}
use Rattle.system_io.proofs.listen.doorways_of.Given as goal

-- one for each place so far
abbrev pub invariant-loop-place : goal.invariant-loop-place
invariant-loop-place l = vec_len l.doorways ≡ l.place
