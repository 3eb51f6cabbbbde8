-- the kept proof grants it
use Rattle.agent_core.proofs.Hits.{hit_granted}
use Rattle.agent_core.proofs.laws.hits_are_grants.Goals as goal

pub returns : goal.returns
returns c = hit_granted
