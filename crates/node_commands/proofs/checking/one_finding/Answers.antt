use Rattle.node_commands.proofs.OneFinding as law
use Rattle.node_commands.proofs.checking.one_finding.Goals as goal

pub returns : goal.returns
returns c = λ o q p a b is_a is_b. law.one_finding o q p a b is_a is_b
