use Rattle.std.proofs.Common.{subst}
use Rattle.std.specs.Prelude.{option_map}
use Rattle.std.proofs.KnownBytes.{Keeps-refl}
use Rattle.std.specs.declared.alloc.Global.{Global}
use Rattle.taos_wire.specs.View.{text_of}
use Rattle.node_commands.specs.Findings.{Halts, for_frame, behind_frames}
use Rattle.node_commands.proofs.check.check_connection.Goals as goal

pub returns-in-Err-NoMemory-clause-checks : goal.returns-in-Err-NoMemory-clause-checks
returns-in-Err-NoMemory-clause-checks g c = (
  for_frame (subst (Halts (g.I.Source.shown c.args.input.now).told (g.I.Source.shown c.frames_of.new.input).told) c.in-Err-NoMemory.field-0-is c.in-Err-NoMemory.ensures.halted),
  Keeps-refl (g.O.Sink.shown c.args.output.now).told,
)

pub returns-in_default-clause-checks : goal.returns-in_default-clause-checks
returns-in_default-clause-checks g c = (
  behind_frames (option_map (text_of {Z = Global}) c.in-Ok.frames.0) (option_map (text_of {Z = Global}) c.in-Ok.frames.1) c.in-Ok.ensures.taken,
  Keeps-refl (g.O.Sink.shown c.args.output.now).told,
)
