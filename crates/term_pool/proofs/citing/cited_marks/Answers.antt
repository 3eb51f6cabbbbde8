use Rattle.std.proofs.Common.{arith}
use Rattle.std.specs.Prelude.{slice_index_or}
use Rattle.std.proofs.lemmas.Option.{slice_get-get_or}
use Rattle.taos_calculus.specs.declared.line.Line.{Line}
use Rattle.taos_calculus.specs.declared.line.Step.{Step}
use Rattle.taos_calculus.specs.declared.line.Fact.{Fact}
use Rattle.term_pool.proofs.Cites.{marks_next, marks_all}
use Rattle.term_pool.proofs.citing.cited_marks.Goals as goal

abbrev no_line : Line
no_line = record { fact = Fact.Speaks 0 0; step = Step.Same }

pub loop-i-preserved : goal.loop-i-preserved
loop-i-preserved c =
    marks_next c.args.lines.now c.args.count c.loop-i.i c.loop-i.marks.items c.mark_cite.new.marks.items (slice_index_or c.args.lines.now c.loop-i.i no_line)
    (slice_get-get_or c.args.lines.now c.loop-i.i no_line (omega arith))
    c.mark_cite.ensures.same_length c.mark_cite.ensures.kept c.mark_cite.ensures.set c.mark_cite.ensures.only c.loop-i.invariant

pub returns : goal.returns
returns c = marks_all c.args.lines.now c.args.count c.loop-i.i c.loop-i.marks.items (omega arith) c.loop-i.invariant
