-- the bytes that the input brings, and what was written of their lines
use Rattle.std.proofs.Common.{subst, sym, ◌∙◌}
use Rattle.std.proofs.KnownBytes.{Keeps-refl}
use Rattle.std.specs.Io.KnownBytes.{Appends}
use Rattle.node_commands.specs.Paths.{before_reading, behind_frame}
use Rattle.node_commands.proofs.Paths.{brought}
use Rattle.node_commands.proofs.path.pass.Goals as goal

pub returns-in_default-clause-passes : goal.returns-in_default-clause-passes
returns-in_default-clause-passes g c = (before_reading (Keeps-refl _), Keeps-refl _)

pub returns-in-Err-Refused-clause-passes : goal.returns-in-Err-Refused-clause-passes
returns-in-Err-Refused-clause-passes g c =
    let stops = rw c.in-Err-Refused.field-0-is at c.in-Err-Refused.ensures.stops in (
      c.bytes_or_none.result.now,
      brought _ _ c.in-Ok-first_payload.found c.bytes_or_none.result c.in-Ok-first_payload.ensures.taken c.bytes_or_none.ensures,
      stops,
      Keeps-refl _,
    )

pub returns-in-Err-NoMemory-clause-passes : goal.returns-in-Err-NoMemory-clause-passes
returns-in-Err-NoMemory-clause-passes g c = (
  behind_frame c.bytes_or_none.result.now (brought _ _ c.in-Ok-first_payload.found c.bytes_or_none.result c.in-Ok-first_payload.ensures.taken c.bytes_or_none.ensures),
  Keeps-refl _,
)

pub returns-in-Ok-pour-clause-passes : goal.returns-in-Ok-pour-clause-passes
returns-in-Ok-pour-clause-passes g c = (
  c.bytes_or_none.result.now,
  c.in-Ok-lines_along.lines.items,
  brought _ _ c.in-Ok-first_payload.found c.bytes_or_none.result c.in-Ok-first_payload.ensures.taken c.bytes_or_none.ensures,
  c.in-Ok-lines_along.ensures.lines,
  subst (Appends (g.O.Sink.shown c.args.output.now).told (g.O.Sink.shown c.pour.new.sink).told) c.deref.ensures.value c.in-Ok-pour.ensures.all,
)

pub returns-clause-passes : goal.returns-clause-passes
returns-clause-passes g c =
    let part = c.in-Err.ensures.part in (
      c.bytes_or_none.result.now,
      c.in-Ok-lines_along.lines.items,
      brought _ _ c.in-Ok-first_payload.found c.bytes_or_none.result c.in-Ok-first_payload.ensures.taken c.bytes_or_none.ensures,
      c.in-Ok-lines_along.ensures.lines,
      (part.0, part.1, sym c.deref.ensures.value ∙ part.2, part.3, part.4),
    )
