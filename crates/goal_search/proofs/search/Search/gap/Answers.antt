-- The rows are looked through from the last one on.
use Rattle.std.proofs.Common.{◌≡◌, ℕ, ◌-◌, ◌∙◌, ap, arith, below_more, length, slice_index, subst}
use Rattle.goal_search.specs.Searching.{core, IsFinishedIn}
use Rattle.goal_search.proofs.Refusals.{place_in, read_at, row_wanted, stands_in}
use Rattle.goal_search.proofs.search.Search.gap.Goals as goal

pub row_gap-requires-clause-row_in : goal.row_gap-requires-clause-row_in
row_gap-requires-clause-row_in c =
    row_wanted (core c.args.self.now) c.requires.ready c.index.result.now
    (stands_in c.args.self.now.wanted.items (c.len-count.result - 1 - c.loop-step.step) c.index.result.now (omega (arith, c.len-count.ensures, c.loop-step-test.true)) c.index.ensures)

pub loop-step-preserved : goal.loop-step-preserved
loop-step-preserved c =
    let items = c.args.self.now.wanted.items in
    let at : c.len-count.result - 1 - c.loop-step.step ≡ length items - 1 - c.loop-step.step = omega (arith, c.len-count.ensures) in
    below_more (λ (k : ℕ). IsFinishedIn (core c.args.self.now) (slice_index items (length items - 1 - k))) c.loop-step.step c.loop-step.invariant
    (subst (λ (r : ℕ). IsFinishedIn (core c.args.self.now) r)
    (read_at items (c.len-count.result - 1 - c.loop-step.step) c.index.result.now (omega (arith, c.len-count.ensures, c.loop-step-test.true)) c.index.ensures ∙ ap (slice_index items) at)
    c.in_default.ensures)

pub returns : goal.returns
returns c = λ row w.
    let items = c.args.self.now.wanted.items in
    let (k, h, e) = place_in items row w in
    let back : length items - 1 - (length items - 1 - k) ≡ k = omega (arith, h) in
    subst (λ (r : ℕ). IsFinishedIn (core c.args.self.now) r) (ap (slice_index items) back ∙ e)
    (c.loop-step.invariant (length items - 1 - k) (omega (arith, h, c.len-count.ensures, c.loop-step-test.false)))
