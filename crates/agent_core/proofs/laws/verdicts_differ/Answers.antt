-- by the laws of journals
use Rattle.agent_core.proofs.Few.{one_verdict}
use Rattle.agent_core.proofs.laws.verdicts_differ.Goals as goal

pub returns : goal.returns
returns c = one_verdict
