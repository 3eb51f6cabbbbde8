use Rattle.std.proofs.Common.{◌≡◌, ℕ, Some, slice_get, sym, subst, ap, ◌∙◌, below_more, arith}
use Rattle.std.proofs.lemmas.Option.{same_Some, slice_get-get_or, slice_get_within}
use Rattle.goal_search.specs.declared.search.Anchored.{Anchored}
use Rattle.goal_search.specs.Gaps.{IsNamedIn}
use Rattle.goal_search.specs.Searching.{core}
use Rattle.goal_search.proofs.EdgeLaws.{link_below, link_edge}
use Rattle.goal_search.proofs.search.Search.name_gaps.Goals as goal

pub part_gap-requires-clause-whole_in : goal.part_gap-requires-clause-whole_in
part_gap-requires-clause-whole_in c =
    (link_below (core c.args.self.now) c.requires.ready c.loop-k.k c.index-link.result.now
    (slice_get-get_or c.args.self.now.links.items c.loop-k.k c.index-link.result.now (omega arith) ∙ ap (λ (x : Anchored). Some x) (sym c.index-link.ensures))).0

pub part_gap-requires-clause-part_in : goal.part_gap-requires-clause-part_in
part_gap-requires-clause-part_in c =
    (link_below (core c.args.self.now) c.requires.ready c.loop-k.k c.index-link.result.now
    (slice_get-get_or c.args.self.now.links.items c.loop-k.k c.index-link.result.now (omega arith) ∙ ap (λ (x : Anchored). Some x) (sym c.index-link.ensures))).1

pub part_gap-requires-clause-part_of : goal.part_gap-requires-clause-part_of
part_gap-requires-clause-part_of c =
    link_edge (core c.args.self.now) c.requires.ready c.loop-k.k c.index-link.result.now
    (slice_get-get_or c.args.self.now.links.items c.loop-k.k c.index-link.result.now (omega arith) ∙ ap (λ (x : Anchored). Some x) (sym c.index-link.ensures))

pub loop-k-preserved : goal.loop-k-preserved
loop-k-preserved c =
    let stands : slice_get c.args.self.now.links.items c.loop-k.k ≡ Some c.index-link.result.now = (slice_get-get_or c.args.self.now.links.items c.loop-k.k c.index-link.result.now (omega arith) ∙ ap (λ (x : Anchored). Some x) (sym c.index-link.ensures)) in
    below_more (λ (i : ℕ). (link : Anchored) → slice_get c.args.self.now.links.items i ≡ Some link → IsNamedIn (core c.args.self.now) c.args.row link) c.loop-k.k c.loop-k.invariant
    (λ link e. subst (λ (x : Anchored). IsNamedIn (core c.args.self.now) c.args.row x) (same_Some c.index-link.result.now link (sym stands ∙ e)) c.in_default.ensures)

pub returns : goal.returns
returns c = λ k link e. c.loop-k.invariant k (omega (arith, slice_get_within c.args.self.now.links.items k link e, c.loop-k-test.false)) link e
