-- what was divided adds up again
use Rattle.agent_core.specs.Journals.{MayFollow}
use Rattle.agent_shards.specs.Room.{HasRoom}
use Rattle.agent_shards.proofs.Shares.{all_back}
use Rattle.agent_shards.proofs.laws.shares_add_up.Goals as goal

pub returns-clause-shards : goal.returns-clause-shards
returns-clause-shards c = all_back MayFollow

pub returns-clause-objects : goal.returns-clause-objects
returns-clause-objects c = all_back HasRoom
