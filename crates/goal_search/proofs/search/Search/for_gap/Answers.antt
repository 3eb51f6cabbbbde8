use Rattle.std.proofs.lemmas.Option.{slice_get_within}
use Rattle.taos_calculus.specs.declared.line.Node.{Node}
use Rattle.goal_search.specs.Reasons.{for_both}
use Rattle.goal_search.specs.Searching.{core}
use Rattle.goal_search.proofs.Told.{node_below}
use Rattle.goal_search.proofs.search.Search.for_gap.Goals as goal

pub pair_gap-requires-clause-from_in : goal.pair_gap-requires-clause-from_in
pair_gap-requires-clause-from_in c = slice_get_within c.args.self.now.nodes.items c.args.from (Node.For c.args.a c.args.b) c.requires.stands

pub pair_gap-requires-clause-first_in : goal.pair_gap-requires-clause-first_in
pair_gap-requires-clause-first_in c =
    ((node_below (core c.args.self.now) c.requires.ready c.args.from (Node.For c.args.a c.args.b) c.requires.stands).0, c.in-For.ensures.operands.0)

pub pair_gap-requires-clause-second_in : goal.pair_gap-requires-clause-second_in
pair_gap-requires-clause-second_in c =
    ((node_below (core c.args.self.now) c.requires.ready c.args.from (Node.For c.args.a c.args.b) c.requires.stands).1, c.in-For.ensures.operands.1)

pub pair_gap-requires-clause-edge : goal.pair_gap-requires-clause-edge
pair_gap-requires-clause-edge c = λ p q. for_both c.requires.stands c.in-For.ensures.stands p q
