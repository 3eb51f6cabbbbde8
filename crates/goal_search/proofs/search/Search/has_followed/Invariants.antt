use Rattle.std.proofs.Common.{ℕ, All, take}
use Rattle.goal_search.specs.Searching.{core, Has, IsNumber}
use Rattle.goal_search.proofs.search.Search.has_followed.Given as goal

abbrev pub invariant-loop-i : goal.invariant-loop-i
invariant-loop-i l = All (λ (row : ℕ). IsNumber (core l.self) row × (Has (core l.self) row l.it.left → Has (core l.self) row l.it.right)) (take l.i l.self.wanted.items)
