use Rattle.std.proofs.Common.{◌≡◌, ℕ, ◌+◌, ◌<◌, ◌++◌, ◌∷◌, [], slice_index, slice_index_or, List, length, false, true, arith, subst, sym, ◌∙◌, ap}
use Rattle.std.proofs.lemmas.List.{get_or_default, length-append}
use Rattle.std.proofs.lemmas.Option.{slice_get-get_or}
use Rattle.taos_calculus.specs.declared.line.Line.{Line}
use Rattle.taos_calculus.specs.declared.line.Step.{Step}
use Rattle.taos_calculus.specs.declared.line.Fact.{Fact}
use Rattle.taos_calculus.specs.Tidy.{moved}
use Rattle.term_pool.specs.Extract.{IsKept}
use Rattle.term_pool.proofs.Premises.{premises_below}
use Rattle.term_pool.proofs.Keeping.{kept_more, kept_skip}
use Rattle.term_pool.proofs.Extracting.{is_extract}
use Rattle.term_pool.proofs.extract.extract.Goals as goal
use Rattle.term_pool.proofs.extract.extract.Goals.{then-index+in_ok-push-2, else-index}

abbrev no_line : Line
no_line = record { fact = Fact.Speaks 0 0; step = Step.Same }

pub renumbered-step-requires : goal.renumbered-step-requires
renumbered-step-requires c =
    premises_below (length c.deref.result.now) (slice_index_or c.args.lines.now c.loop-k.k no_line).step
    (λ i q.
    omega (
      arith,
      c.requires.ordered c.loop-k.k i (slice_index_or c.args.lines.now c.loop-k.k no_line)
          (slice_get-get_or c.args.lines.now c.loop-k.k no_line (omega arith)) q,
      c.loop-k.invariant.kept.long,
      ap length c.in_ok-push.ensures.items,
      ap length c.deref.ensures.value,
      length-append c.loop-k.numbers.items (c.len.result ∷ []),
    ))

pub loop-k-preserved : goal.loop-k-preserved
loop-k-preserved c =
    let lines = c.args.lines.now in
    let k = c.loop-k.k in
    let marks = c.in_ok-marks.marks.items in
    let within : k < length lines = omega arith in
    let line = slice_index_or lines k no_line in
    let stands = slice_get-get_or lines k no_line within in
    let in_marks : k < length marks = omega (arith, c.in_ok-marks.ensures.long) in
    let read = get_or_default marks k false c.index.result.now in_marks in
    let len : c.len.result ≡ length c.loop-k.out.items = c.len.ensures ∙ c.loop-k.out.ok.0 in
    let numbers : c.push.new.self.items ≡ c.loop-k.numbers.items ++ length c.loop-k.out.items ∷ []
    = c.in_ok-push.ensures.items ∙ ap (λ n. c.loop-k.numbers.items ++ n ∷ []) len in
    elim c.if-index.branch [
      | then-index+in_ok-push-2 w ↦
          let items : w.push-then-index.new.self.items ≡ c.loop-k.out.items ++ record { fact = line.fact; step = moved (λ i. slice_index (c.loop-k.numbers.items ++ length c.loop-k.out.items ∷ []) i) (λ n. n) line.step } ∷ []
          = w.in_ok-push-2.ensures.items ∙ ap (λ (s : Step). c.loop-k.out.items ++ record { fact = line.fact; step = s } ∷ [])
          (w.renumbered-step.ensures ∙ ap (λ (xs : List ℕ). moved (λ i. slice_index xs i) (λ n. n) line.step) (w.deref.ensures.value ∙ numbers)) in
          record {
            kept = rw (w.out-is, numbers, items)
                (kept_more lines marks k c.loop-k.numbers.items c.loop-k.out.items line stands c.requires.ordered
                (λ j n. c.in_ok-marks.ensures.closed j (omega arith) n) c.loop-k.invariant.kept (read ∙ (sym c.index.ensures ∙ w.if-index.true)));
            small = rw (w.out-is, items) (omega (arith, c.loop-k.invariant.small, length-append c.loop-k.out.items (record { fact = line.fact; step = moved (λ i. slice_index (c.loop-k.numbers.items ++ length c.loop-k.out.items ∷ []) i) (λ n. n) line.step } ∷ [])));
          }
      | else-index w ↦
          record {
            kept = rw (w.out-is, numbers)
                (kept_skip lines marks k c.loop-k.numbers.items c.loop-k.out.items line stands c.requires.ordered
                (λ j n. c.in_ok-marks.ensures.closed j (omega arith) n) c.loop-k.invariant.kept
                (λ m. let e : true ≡ false = sym m ∙ (read ∙ (sym c.index.ensures ∙ w.if-index.false)) in cc));
            small = rw w.out-is (omega (arith, c.loop-k.invariant.small));
          }
    ]

pub returns : goal.returns
returns c =
    let end : c.loop-k.k ≡ c.args.last + 1 = omega arith in
    is_extract c.args.lines.now c.args.last c.in_ok-marks.marks.items c.loop-k.numbers.items c.loop-k.out.items c.requires.last_in c.in_ok-marks.ensures
    (subst (λ n. IsKept c.args.lines.now c.in_ok-marks.marks.items n c.loop-k.numbers.items c.loop-k.out.items) end c.loop-k.invariant.kept)
    (omega (arith, end, c.loop-k.invariant.small))
