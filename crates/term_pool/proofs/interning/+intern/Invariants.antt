use Rattle.prin_term.specs.Principal.{node_count}
use Rattle.prin_term.specs.View.{principal}
use Rattle.term_pool.proofs.interning.+intern.Given as goal

abbrev pub decreases-intern : goal.decreases-intern
decreases-intern l = node_count (principal l.term.now)
