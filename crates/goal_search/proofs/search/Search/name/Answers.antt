use Rattle.std.proofs.Common.{Some, sym, ap, ◌∙◌}
use Rattle.std.proofs.lemmas.Option.{slice_get-get_or}
use Rattle.goal_search.specs.declared.search.Anchored.{Anchored}
use Rattle.goal_search.specs.Searching.{core}
use Rattle.goal_search.proofs.EdgeLaws.{link_below, link_edge}
use Rattle.goal_search.proofs.search.Search.name.Goals as goal

pub go_on-requires-clause-from_in : goal.go_on-requires-clause-from_in
go_on-requires-clause-from_in c =
    (link_below (core c.args.self.now) c.requires.ready c.args.link c.index-it.result.now
    (slice_get-get_or c.args.self.now.links.items c.args.link c.index-it.result.now c.requires.link_in ∙ ap (λ (x : Anchored). Some x) (sym c.index-it.ensures))).0

pub go_on-requires-clause-to_in : goal.go_on-requires-clause-to_in
go_on-requires-clause-to_in c =
    (link_below (core c.args.self.now) c.requires.ready c.args.link c.index-it.result.now
    (slice_get-get_or c.args.self.now.links.items c.args.link c.index-it.result.now c.requires.link_in ∙ ap (λ (x : Anchored). Some x) (sym c.index-it.ensures))).1

pub go_on-requires-clause-edge : goal.go_on-requires-clause-edge
go_on-requires-clause-edge c =
    link_edge (core c.args.self.now) c.requires.ready c.args.link c.index-it.result.now
    (slice_get-get_or c.args.self.now.links.items c.args.link c.index-it.result.now c.requires.link_in ∙ ap (λ (x : Anchored). Some x) (sym c.index-it.ensures))
