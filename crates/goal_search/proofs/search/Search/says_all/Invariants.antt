use Rattle.std.proofs.Common.{◌≡◌, ℕ, ◌<◌, Some, slice_get}
use Rattle.term_pool.specs.declared.cited.Cited.{Cited}
use Rattle.goal_search.specs.Reasons.{IsAlike}
use Rattle.goal_search.specs.Searching.{core, Has}
use Rattle.goal_search.proofs.search.Search.says_all.Given as goal

abbrev pub invariant-loop-other : goal.invariant-loop-other
invariant-loop-other l = (i : ℕ) → i < l.other → (c d : Cited) → slice_get l.self.cited.items i ≡ Some c → slice_get l.self.cited.items l.number ≡ Some d →
    IsAlike c d → Has (core l.self) l.row c.speaker
