use Rattle.std.proofs.Common.{ℕ, ◌<◌, ◌-◌, length, slice_index}
use Rattle.goal_search.specs.Searching.{core, IsFinishedIn}
use Rattle.goal_search.proofs.search.Search.gap.Given as goal

abbrev pub invariant-loop-step : goal.invariant-loop-step
invariant-loop-step l = (k : ℕ) → k < l.step → IsFinishedIn (core l.self) (slice_index l.self.wanted.items (length l.self.wanted.items - 1 - k))
