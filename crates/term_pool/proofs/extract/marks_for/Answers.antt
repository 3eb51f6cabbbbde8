use Rattle.std.proofs.Common.{◌≡◌, ◌+◌, ◌-◌, ◌<◌, slice_index_or, length, false, arith, subst, sym, ◌∙◌}
use Rattle.std.proofs.lemmas.List.{get_or_default}
use Rattle.std.proofs.lemmas.Option.{slice_get-get_or}
use Rattle.taos_calculus.specs.declared.line.Line.{Line}
use Rattle.taos_calculus.specs.declared.line.Step.{Step}
use Rattle.taos_calculus.specs.declared.line.Fact.{Fact}
use Rattle.term_pool.specs.Extract.{IsMarkedFrom}
use Rattle.term_pool.proofs.Marking.{marked_from}
use Rattle.term_pool.proofs.extract.marks_for.Goals as goal

abbrev no_line : Line
no_line = record { fact = Fact.Speaks 0 0; step = Step.Same }

pub mark_premises-requires : goal.mark_premises-requires
mark_premises-requires c = λ i q.
    let within : c.loop-k.k - 1 < length c.args.lines.now = omega arith in
    let below : i < c.loop-k.k - 1 = c.requires.ordered (c.loop-k.k - 1) i (slice_index_or c.args.lines.now (c.loop-k.k - 1) no_line)
    (slice_get-get_or c.args.lines.now (c.loop-k.k - 1) no_line within) q in
    omega (arith, c.loop-k.invariant.marked.long)

pub loop-k-preserved-then-index : goal.loop-k-preserved-then-index
loop-k-preserved-then-index c =
    let within : c.loop-k.k - 1 < length c.args.lines.now = omega arith in
    let in_marks : c.loop-k.k - 1 < length c.loop-k.marks.items = omega (arith, c.loop-k.invariant.marked.long) in
    let again : c.loop-k.k ≡ c.loop-k.k - 1 + 1 = omega arith in
    let line = slice_index_or c.args.lines.now (c.loop-k.k - 1) no_line in
    let stands = slice_get-get_or c.args.lines.now (c.loop-k.k - 1) no_line within in
    record {
      marked = marked_from c.args.lines.now c.args.last (c.loop-k.k - 1) c.loop-k.marks.items c.mark_premises.new.marks.items line stands
          (λ i q. c.requires.ordered (c.loop-k.k - 1) i line stands q) (omega arith)
          (get_or_default c.loop-k.marks.items (c.loop-k.k - 1) false c.index.result.now in_marks ∙ (sym c.index.ensures ∙ c.if-index.true))
          c.mark_premises.ensures.same_length c.mark_premises.ensures.kept c.mark_premises.ensures.set c.mark_premises.ensures.only
          (subst (λ n. IsMarkedFrom c.args.lines.now c.args.last n c.loop-k.marks.items) again c.loop-k.invariant.marked);
      k_in = omega arith;
    }
