use Rattle.std.proofs.Common.{◌≡◌, ℕ, ◌<◌, get_or}
use Rattle.goal_search.proofs.search.Search.is_wanted.Given as goal

abbrev pub invariant-loop-i : goal.invariant-loop-i
invariant-loop-i l = (m : ℕ) → m < l.i → get_or l.self.wanted.items m l.row ≡ l.row → ⊥
