-- by the laws of journals
use Rattle.agent_core.proofs.Journaling.{legal_more}
use Rattle.agent_core.proofs.laws.one_more_is_legal.Goals as goal

pub returns : goal.returns
returns c = legal_more
