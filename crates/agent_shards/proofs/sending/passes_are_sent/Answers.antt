-- a pass goes where its value may
use denote.Param.Send.{sendable}
use Rattle.agent_shards.proofs.Crossing.{passes_send, rack_passes_send}
use Rattle.agent_shards.proofs.sending.passes_are_sent.Goals as goal

pub is_sent-requires-send-T : goal.is_sent-requires-send-T
is_sent-requires-send-T c κs = search (sendable, passes_send)

pub is_sent-requires-2-send-T : goal.is_sent-requires-2-send-T
is_sent-requires-2-send-T c κs = search (sendable, rack_passes_send)
