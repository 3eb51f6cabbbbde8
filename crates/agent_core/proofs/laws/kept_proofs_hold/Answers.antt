-- by the laws of journals
use Rattle.agent_core.proofs.Backed.{cache_backed}
use Rattle.agent_core.proofs.laws.kept_proofs_hold.Goals as goal

pub returns : goal.returns
returns c = cache_backed
