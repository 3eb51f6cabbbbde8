use Rattle.prin_term.specs.Principal.{node_count}
use Rattle.prin_term.specs.View.{principal}
use Rattle.denial_link.proofs.part.+is_reached.Given as goal

abbrev pub decreases-is_reached : goal.decreases-is_reached
decreases-is_reached g l = node_count (principal l.subject.now)
