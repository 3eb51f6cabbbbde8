use Rattle.node_commands.proofs.OneInput as law
use Rattle.node_commands.proofs.check.one_check.Goals as goal

pub returns : goal.returns
returns c = λ o bytes x y a b s t. law.one_check o bytes x y a b s t
