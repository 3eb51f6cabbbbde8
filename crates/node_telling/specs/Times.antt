-- Into which of the counts of replies a time falls.
use Rattle.std.specs.Prelude.{ℕ, ◌<◌, ◌≤◌, get_or, length}
use Rattle.node_telling.specs.declared.texts.timing.TheConstants.{BOUNDS}

-- all bounds before the place are below the time, and that at the place, where there is one, is not
pub record FallsAt (micros place : ℕ) : Type 0 where
  pub within : place ≤ length BOUNDS
  pub above : (k : ℕ) → k < place → get_or BOUNDS k 0 < micros
  pub below : place < length BOUNDS → micros ≤ get_or BOUNDS place 0
