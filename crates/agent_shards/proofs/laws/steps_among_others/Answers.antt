-- the entry stands last
use Rattle.agent_shards.proofs.Among.{steps_add_one}
use Rattle.agent_shards.proofs.laws.steps_among_others.Goals as goal

pub returns : goal.returns
returns c = steps_add_one
