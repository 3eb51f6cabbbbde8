use Rattle.node_journals.proofs.Alone.{came_of}
use Rattle.node_journals.proofs.Writable.{left_asks, left_writable}
use Rattle.node_journals.proofs.laws.left_laws.what_a_node_left_is_writable.Goals as goal

pub returns-clause-writable : goal.returns-clause-writable
returns-clause-writable c = λ n few J served. left_writable n few J (came_of n J served)

pub returns-clause-asks : goal.returns-clause-asks
returns-clause-asks c = λ n few lists J served. left_asks n few J (came_of n J served) lists
