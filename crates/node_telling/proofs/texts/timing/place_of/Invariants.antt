use Rattle.std.proofs.Common.{ℕ, ◌<◌, get_or}
use Rattle.node_telling.specs.declared.texts.timing.TheConstants.{BOUNDS}
use Rattle.node_telling.proofs.texts.timing.place_of.Given as goal

-- the bounds before this place are below the time
abbrev pub invariant-loop-place : goal.invariant-loop-place
invariant-loop-place l = (k : ℕ) → k < l.place → get_or BOUNDS k 0 < l.micros
