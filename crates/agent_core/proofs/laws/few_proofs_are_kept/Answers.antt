-- by the laws of lists of kept proofs
use Rattle.agent_core.proofs.KeptFew.{cache_small}
use Rattle.agent_core.proofs.laws.few_proofs_are_kept.Goals as goal

pub returns : goal.returns
returns c = cache_small
