use Rattle.shard_core.proofs.Opens as law
use Rattle.shard_core.proofs.of_opening.cells_are_of.Goals as goal

pub returns : goal.returns
returns c = law.cells_are_of
