-- a first entry grants
use Rattle.agent_core.proofs.Few.{judged_verdict}
use Rattle.agent_core.proofs.laws.decisions_are_verdicts.Goals as goal

pub returns : goal.returns
returns c = judged_verdict
