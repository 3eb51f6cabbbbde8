use Rattle.std.proofs.Common.{arith, ◌≡◌, ℕ, Some, slice_get, below_more}
use Rattle.std.proofs.lemmas.Option.{slice_get_within}
use Rattle.taos_calculus.specs.declared.line.Fact.{Fact}
use Rattle.term_pool.specs.declared.cited.Cited.{Cited}
use Rattle.goal_search.specs.Reasons.{IsAlike}
use Rattle.goal_search.specs.Searching.{core}
use Rattle.goal_search.specs.Telling.{IsTold}
use Rattle.goal_search.proofs.Told.{more_then}
use Rattle.goal_search.proofs.search.Search.tell_speaker.Goals as goal

pub loop-other-preserved : goal.loop-other-preserved
loop-other-preserved c = record {
  more = more_then (core c.args.self.now) c.args.found.now c.loop-other.found c.tell_made.new.found c.loop-other.invariant.more c.tell_made.ensures.more;
  told = below_more
      (λ (i : ℕ). (x y : Cited) → slice_get c.args.self.now.cited.items i ≡ Some x → slice_get c.args.self.now.cited.items c.args.number ≡ Some y → IsAlike x y →
      c.args.who ≡ x.speaker → IsTold c.tell_made.new.found (Fact.Says c.args.who y.left y.right))
      c.loop-other.other
      (λ i b x y e f alike w. c.tell_made.ensures.more.kept (Fact.Says c.args.who y.left y.right) (c.loop-other.invariant.told i b x y e f alike w))
      c.tell_made.ensures.told;
}

pub returns-clause-told : goal.returns-clause-told
returns-clause-told c = λ i x y e f alike w.
    let inside = slice_get_within c.args.self.now.cited.items i x e in
    c.loop-other.invariant.told i (omega (arith, inside, c.loop-other-test.false)) x y e f alike w
