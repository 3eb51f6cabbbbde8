-- by cases, or at once
use Rattle.agent_core.proofs.Few.{steps_alone}
use Rattle.agent_core.proofs.laws.steps_may_be_alone.Goals as goal

pub returns : goal.returns
returns c = steps_alone
