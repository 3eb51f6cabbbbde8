use Rattle.node_journals.proofs.Alone.{came_of}
use Rattle.node_journals.proofs.Legal.{left_legal}
use Rattle.node_journals.proofs.laws.left_laws.what_a_node_left_is_legal.Goals as goal

pub returns : goal.returns
returns c = λ n own J served. left_legal n own J (came_of n J served)
