use Rattle.std.proofs.Common.{ℕ, ◌<◌}
use Rattle.term_pool.specs.Finding.{IsGap}
use Rattle.term_pool.proofs.found.Found.gap.Given as goal

abbrev pub invariant-loop-c : goal.invariant-loop-c
invariant-loop-c l = (m : ℕ) → m < l.c → IsGap l.self l.row l.through m → ⊥
