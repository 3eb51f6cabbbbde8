use Rattle.std.proofs.Common.{ℕ, subst}
use Rattle.std.specs.Prelude.{Option, option_map, Vec}
use Rattle.std.specs.declared.alloc.Global.{Global}
use Rattle.taos_wire.specs.View.{text_of}
use Rattle.node_commands.specs.Findings.{TakesOne, at_reply}
use Rattle.node_commands.proofs.check.frames_of.Goals as goal

pub returns-in-Err-frame_of-clause-halted : goal.returns-in-Err-frame_of-clause-halted
returns-in-Err-frame_of-clause-halted g c = at_reply c.in-Ok-Some.request.items (record {
  middle = (g.I.Source.shown c.frame_of.new.input).told;
  first = subst (λ (f : Option (Vec ℕ Global)). TakesOne 65536 (g.I.Source.shown c.args.input.now).told (g.I.Source.shown c.frame_of.new.input).told (option_map (text_of {Z = Global}) f)) c.in-Ok-Some.field-0-is c.in-Ok-Some.ensures.taken;
  behind = c.in-Err-frame_of.ensures.halted;
})
