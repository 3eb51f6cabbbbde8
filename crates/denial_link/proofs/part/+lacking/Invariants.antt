use Rattle.prin_term.specs.Principal.{node_count}
use Rattle.prin_term.specs.View.{principal}
use Rattle.denial_link.proofs.part.+lacking.Given as goal

abbrev pub decreases-lacking : goal.decreases-lacking
decreases-lacking g l = node_count (principal l.part.now)
