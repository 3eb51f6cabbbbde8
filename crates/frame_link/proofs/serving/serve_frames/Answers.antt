use Rattle.frame_link.specs.Served.{line}
use Rattle.frame_link.proofs.Complete.{is_complete}
use Rattle.frame_link.proofs.serving.serve_frames.Goals as goal

-- what was served, and the counts, say that nothing else ended it
pub returns-clause-complete : goal.returns-clause-complete
returns-clause-complete g c =
    is_complete g.S.Service.answers g.S.Service.gives_up g.S.Service.faults c.args.frames
    (line (g.I.Source.shown c.args.input.now) (g.O.Sink.shown c.args.output.now) c.args.service.now)
    (line (g.I.Source.shown c.answer_frames.new.input) (g.O.Sink.shown c.answer_frames.new.output) c.answer_frames.new.service)
    c.answer_frames.result c.answer_frames.ensures.served c.answer_frames.ensures.causes
