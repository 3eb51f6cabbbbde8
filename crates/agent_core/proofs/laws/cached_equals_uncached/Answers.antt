-- each entry tells what the shard makes of those before it
use Rattle.agent_core.proofs.Plainly.{plain_verdicts}
use Rattle.agent_core.proofs.laws.cached_equals_uncached.Goals as goal

pub returns : goal.returns
returns c = plain_verdicts
