-- One of each lane so far.
use Rattle.std.specs.Prelude.{◌≡◌, vec_len}
use Rattle.system_hub.proofs.handle.ports_of.Given as goal

abbrev pub invariant-loop-lane : goal.invariant-loop-lane
invariant-loop-lane l = vec_len l.ends ≡ l._lane
