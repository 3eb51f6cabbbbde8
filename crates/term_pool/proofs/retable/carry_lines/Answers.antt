use Rattle.std.proofs.Common.{◌≡◌, ◌<◌, ℕ, List, Some, slice_get, get_or, length, take, arith, All}
use Rattle.std.proofs.lemmas.List.{take_more}
use Rattle.std.proofs.lemmas.List.Elements.{All-take}
use Rattle.std.proofs.lemmas.Option.{slice_get-get_or}
use Rattle.taos_calculus.specs.declared.line.Fact.{Fact}
use Rattle.taos_calculus.specs.declared.line.Line.{Line}
use Rattle.taos_calculus.specs.declared.line.Step.{Step}
use Rattle.taos_calculus.specs.Tables.{IsBelow}
use Rattle.term_pool.proofs.CarriedLines.{carries_more}
use Rattle.term_pool.proofs.Fitting.{next_fits}
use Rattle.term_pool.proofs.retable.carry_lines.Goals as goal

abbrev no_line : Line
no_line = record { fact = Fact.Speaks 0 0; step = Step.Same }

each_below : (n : ℕ) (lines : List Line) → ((i : ℕ) (l : Line) → slice_get lines i ≡ Some l → IsBelow n l.fact) → All (λ (l : Line). IsBelow n l.fact) lines
each_below n lines below k d h = below k (get_or lines k d) (slice_get-get_or lines k d h)

pub carry_fact-fact-requires-clause-fits : goal.carry_fact-fact-requires-clause-fits
carry_fact-fact-requires-clause-fits c =
    let below = each_below (length c.args.nodes.now) c.args.lines.now c.requires.below in
    next_fits c.args.nodes.now c.requires.table c.args.used.now (take c.loop-i.i c.args.lines.now) c.loop-i.new.items c.loop-i.out.items (get_or c.args.lines.now c.loop-i.i no_line).fact c.requires.few
    (All-take (λ (l : Line). IsBelow (length c.args.nodes.now) l.fact) c.loop-i.i c.args.lines.now below)
    (c.requires.below c.loop-i.i (get_or c.args.lines.now c.loop-i.i no_line) (slice_get-get_or c.args.lines.now c.loop-i.i no_line (omega arith)))
    c.loop-i.invariant.carries

pub recite-step-requires-clause-has : goal.recite-step-requires-clause-has
recite-step-requires-clause-has c = λ k q.
    c.requires.has c.loop-i.i k (get_or c.args.lines.now c.loop-i.i no_line) (slice_get-get_or c.args.lines.now c.loop-i.i no_line (omega arith)) q

pub loop-i-preserved : goal.loop-i-preserved
loop-i-preserved c =
    let inside : c.loop-i.i < length c.args.lines.now = omega arith in
    record {
      carries = rw (take_more c.args.lines.now c.loop-i.i no_line inside, c.in_ok-push.ensures.items)
          (carries_more c.args.nodes.now c.args.used.now (take c.loop-i.i c.args.lines.now) c.loop-i.new.items c.carry_fact-fact.new.new.items c.loop-i.out.items (get_or c.args.lines.now c.loop-i.i no_line)
          c.carry_fact-fact.result c.recite-step.result c.loop-i.invariant.carries c.carry_fact-fact.ensures.carries c.recite-step.ensures);
      room = omega (arith, c.loop-i.invariant.room, c.carry_fact-fact.ensures.capacity);
      known = c.carry_fact-fact.ensures.known;
    }
