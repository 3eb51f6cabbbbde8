use Rattle.taos_calculus.specs.declared.line.Node.{Node}
use Rattle.goal_search.specs.Searching.{about, core, Has}
use Rattle.goal_search.proofs.EdgeLaws.{edge_under}
use Rattle.goal_search.proofs.Told.{node_below}
use Rattle.goal_search.proofs.search.Search.role_gap.Goals as goal

pub pair_gap-requires-clause-first_in : goal.pair_gap-requires-clause-first_in
pair_gap-requires-clause-first_in c = (node_below (core c.args.self.now) c.requires.ready c.args.from (Node.AsRole c.args.a c.args.role) c.requires.stands, c.in-AsRole.ensures.operands)

pub pair_gap-requires-clause-second_in : goal.pair_gap-requires-clause-second_in
pair_gap-requires-clause-second_in c = (
  node_below (core c.args.self.now) c.requires.ready c.args.from (Node.AsRole c.args.a c.args.role) c.requires.stands,
  node_below (core c.args.self.now) c.requires.ready c.args.from (Node.AsRole c.args.a c.args.role) c.requires.stands,
)

pub pair_gap-requires-clause-edge : goal.pair_gap-requires-clause-edge
pair_gap-requires-clause-edge c = λ p q.
    edge_under (about (core c.args.self.now)) (Has (core c.args.self.now)) c.args.from c.args.to c.args.a c.in-AsRole.c c.args.role c.in-AsRole.other c.requires.stands
    c.in-AsRole.ensures.stands c.if-role-other.true p
