-- by the laws of journals
use Rattle.agent_core.proofs.Making.{front_legal}
use Rattle.agent_core.proofs.laws.fronts_are_legal.Goals as goal

pub returns : goal.returns
returns c = front_legal
