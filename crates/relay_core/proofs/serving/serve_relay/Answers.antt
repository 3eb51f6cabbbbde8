use Rattle.std.proofs.Common.{refl}
use Rattle.frame_link.specs.Served.{line}
use Rattle.frame_link.proofs.Ends.{unserved}
use Rattle.relay_core.specs.declared.serving.Answering.{Answering}
use Rattle.relay_core.specs.Serving.{Answers, GivesUp}
use Rattle.relay_core.proofs.ByTable.{by_table}
use Rattle.relay_core.proofs.serving.serve_relay.Goals as goal

pub returns-in_default-clause-served : goal.returns-in_default-clause-served
returns-in_default-clause-served g c =
    unserved Answers GivesUp c.args.frames (line (g.I.Source.shown c.args.input.now) (g.O.Sink.shown c.args.output.now) c.args.table.now)

pub returns-clause-served : goal.returns-clause-served
returns-clause-served g c =
    by_table (λ (s : Answering). s.table.now) c.args.table.now c.args.frames _ _ c.serve_frames.result refl c.serve_frames.ensures.served
