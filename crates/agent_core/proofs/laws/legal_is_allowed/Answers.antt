-- by the laws of journals
use Rattle.agent_core.proofs.Making.{legal_allowed}
use Rattle.agent_core.proofs.laws.legal_is_allowed.Goals as goal

pub returns : goal.returns
returns c = legal_allowed
