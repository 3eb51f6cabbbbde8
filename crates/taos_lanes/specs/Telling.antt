-- How connections are told.
use Rattle.frame_link.specs.Streams.{Stream}

-- what is told of a connection: of its input, and of its output
pub record Telling (In Out : Type 0) : Type 0 where
  pub input : In → Stream
  pub output : Out → Stream

-- told by these
abbrev pub told_by : {In Out : Type 0} → (In → Stream) → (Out → Stream) → Telling In Out
told_by input output = record { input = input; output = output }
