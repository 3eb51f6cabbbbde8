use Rattle.std.proofs.Common.{◌≡◌, Some, slice_get, refl, arith}
use Rattle.std.proofs.lemmas.Option.{slice_get-get_or, slice_get_within}
use Rattle.term_pool.specs.declared.cited.Cited.{Cited}
use Rattle.term_pool.specs.Claims.{cited_or}
use Rattle.std.proofs.Common.{below_more, ℕ}
use Rattle.goal_search.specs.Reasons.{IsAlike}
use Rattle.goal_search.specs.Searching.{core, Has}
use Rattle.goal_search.proofs.search.Search.says_all.Goals as goal

pub returns-then-not-says_one : goal.returns-then-not-says_one
returns-then-not-says_one c =
    let cited = c.args.self.now.cited.items in
    let x : Cited = cited_or cited c.loop-other.other in
    let y : Cited = cited_or cited c.args.number in
    let ex : slice_get cited c.loop-other.other ≡ Some x = slice_get-get_or cited c.loop-other.other (record { place = 0; speaker = 0; left = 0; right = 0 }) (omega arith) in
    let ey : slice_get cited c.args.number ≡ Some y = slice_get-get_or cited c.args.number (record { place = 0; speaker = 0; left = 0; right = 0 }) c.requires.number_in in
    (λ t. absurd (cc), λ all. (c.if-not-says_one.ensures x y ex ey).1 (λ alike. all c.loop-other.other x y ex ey alike))

pub loop-other-preserved : goal.loop-other-preserved
loop-other-preserved c =
    below_more
    (λ (i : ℕ). (x y : Cited) → slice_get c.args.self.now.cited.items i ≡ Some x → slice_get c.args.self.now.cited.items c.args.number ≡ Some y → IsAlike x y → Has (core c.args.self.now) c.args.row x.speaker)
    c.loop-other.other c.loop-other.invariant (λ x y e f. (c.if-not-says_one.ensures x y e f).0 refl)

pub returns : goal.returns
returns c = (
  λ t i x y e f alike. c.loop-other.invariant i (omega (arith, slice_get_within c.args.self.now.cited.items i x e, c.loop-other-test.false)) x y e f alike,
  λ all. refl,
)
