use Rattle.node_journals.proofs.Alone.{came_of}
use Rattle.node_journals.proofs.Legal.{left_replayed}
use Rattle.node_journals.proofs.laws.left_laws.what_a_node_left_is_replayed.Goals as goal

pub returns : goal.returns
returns c = λ n own J served. left_replayed n own J (came_of n J served)
