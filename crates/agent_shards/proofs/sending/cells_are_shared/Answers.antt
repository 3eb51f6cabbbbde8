-- a cell is shared where its value may be sent
use denote.Param.Send.{sendable}
use Rattle.agent_shards.proofs.Crossing.{agent_sync, rack_sync}
use Rattle.agent_shards.proofs.sending.cells_are_shared.Goals as goal

pub is_shared-requires-sync-T : goal.is_shared-requires-sync-T
is_shared-requires-sync-T c κs = search (sendable, agent_sync)

pub is_shared-requires-2-sync-T : goal.is_shared-requires-2-sync-T
is_shared-requires-2-sync-T c κs = search (sendable, rack_sync)
