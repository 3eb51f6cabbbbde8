use Rattle.std.proofs.Common.{◌≡◌}
use Rattle.frame_link.specs.declared.service.TheConstants.{MAX_PAYLOAD}
use Rattle.frame_link.specs.Served.{line}
use Rattle.frame_link.proofs.Turns.{Progress}
use Rattle.frame_link.proofs.serving.answer_frames.Given as goal

abbrev pub invariant-loop-answered : goal.invariant-loop-answered
invariant-loop-answered g l = record {
  limit : l.buf.limit ≡ MAX_PAYLOAD;
  stands : g.S.Service.stands l.service;
  same : g.S.Service.borrows l.service ≡ g.S.Service.borrows l.initial.service;
  progress : Progress g.S.Service.answers l.answered (line (g.I.Source.shown l.initial.input) (g.O.Sink.shown l.initial.output) l.initial.service) (line (g.I.Source.shown l.input) (g.O.Sink.shown l.output) l.service);
  input_steady : (g.I.Source.shown l.input).faults ≡ (g.I.Source.shown l.initial.input).faults;
  output_steady : (g.O.Sink.shown l.output).faults ≡ (g.O.Sink.shown l.initial.output).faults;
  clock_steady : g.S.Service.faults l.service ≡ g.S.Service.faults l.initial.service;
}
