use Rattle.prin_term.specs.Principal.{node_count}
use Rattle.prin_term.specs.View.{principal}
use Rattle.term_pool.proofs.region.Region.+find.Given as goal

abbrev pub decreases-find : goal.decreases-find
decreases-find l = node_count (principal l.term.now)
