-- by cases, or at once
use Rattle.agent_core.proofs.Few.{meant_stays}
use Rattle.agent_core.proofs.laws.what_is_meant_stays.Goals as goal

pub returns : goal.returns
returns c = meant_stays
