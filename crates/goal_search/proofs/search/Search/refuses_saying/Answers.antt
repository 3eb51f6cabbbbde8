use Rattle.std.proofs.Common.{refl, arith, below_more, subst, ℕ, slice_index}
use Rattle.goal_search.specs.Gaps.{SaysAll}
use Rattle.goal_search.specs.Searching.{core, Has}
use Rattle.goal_search.proofs.Refusals.{never, no_saying_refusal, says_begins, read_at, stands_in}
use Rattle.goal_search.proofs.search.Search.refuses_saying.Goals as goal

pub returns-then-lacks_saying : goal.returns-then-lacks_saying
returns-then-lacks_saying c = λ k e. (
  λ t.
      let both = c.if-lacks_saying.ensures.0 refl in
      record {
        row = c.index.result.now;
        finished = stands_in c.args.self.now.wanted.items c.loop-place.place c.index.result.now (omega arith) c.index.ensures;
        begins = says_begins (core c.args.self.now) c.requires.ready c.index.result.now c.args.number k e both.1;
        lacks = both.0;
      },
  λ r. refl,
)

pub loop-place-preserved : goal.loop-place-preserved
loop-place-preserved c =
    below_more
    (λ (k : ℕ). (Has (core c.args.self.now) (slice_index c.args.self.now.wanted.items k) c.args.who → ⊥) → SaysAll (core c.args.self.now) (slice_index c.args.self.now.wanted.items k) c.args.number → ⊥)
    c.loop-place.place c.loop-place.invariant
    (subst (λ (r : ℕ). (Has (core c.args.self.now) r c.args.who → ⊥) → SaysAll (core c.args.self.now) r c.args.number → ⊥) (read_at c.args.self.now.wanted.items c.loop-place.place c.index.result.now (omega arith) c.index.ensures) (λ n says. never (c.if-lacks_saying.ensures.1 (n, says))))

pub returns : goal.returns
returns c = λ k e. (
  λ t. absurd (never t),
  λ r. absurd (no_saying_refusal (core c.args.self.now) c.requires.ready c.args.number c.args.who k e (λ i b. c.loop-place.invariant i (omega (arith, b, c.loop-place-test.false))) r),
)
