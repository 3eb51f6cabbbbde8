-- what stands at the place is judged by the entries before it
use Rattle.agent_shards.proofs.Among.{denials_are_verdicts, grants_are_verdicts}
use Rattle.agent_shards.proofs.laws.asks_among_others.Goals as goal

pub returns-clause-granted : goal.returns-clause-granted
returns-clause-granted c = grants_are_verdicts

pub returns-clause-denied : goal.returns-clause-denied
returns-clause-denied c = denials_are_verdicts
