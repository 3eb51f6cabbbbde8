use Rattle.taos_drill.proofs.Frames.{stream_splits}
use Rattle.taos_drill.proofs.laws.streams_are_whole_frames.Goals as goal

pub returns : goal.returns
returns c = λ seed requests lanes lane. stream_splits seed requests lanes lane
