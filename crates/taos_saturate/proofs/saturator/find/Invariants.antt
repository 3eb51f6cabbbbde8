use Rattle.std.proofs.Common.{◌≢◌, ℕ, ◌<◌}
use Rattle.prin_term.specs.View.{principal}
use Rattle.taos_calculus.specs.Tables.{named}
use Rattle.taos_saturate.proofs.saturator.find.Given as goal

abbrev pub invariant-loop-i : goal.invariant-loop-i
invariant-loop-i l = (m : ℕ) → m < l.i → named l.nodes m ≢ principal l.term
