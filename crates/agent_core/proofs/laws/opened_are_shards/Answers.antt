-- by place
use Rattle.agent_core.proofs.AllShards.{opened_are_shards, each_channel_at_home}
use Rattle.agent_core.proofs.laws.opened_are_shards.Goals as goal

pub returns-clause-shards : goal.returns-clause-shards
returns-clause-shards c = opened_are_shards

pub returns-clause-home : goal.returns-clause-home
returns-clause-home c = each_channel_at_home
