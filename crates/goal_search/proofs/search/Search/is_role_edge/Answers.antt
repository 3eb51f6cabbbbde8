use Rattle.goal_search.specs.Searching.{about, core, Has}
use Rattle.goal_search.proofs.EdgeLaws.{edge_under}
use Rattle.goal_search.proofs.search.Search.is_role_edge.Goals as goal

pub returns-then-role-other : goal.returns-then-role-other
returns-then-role-other c = λ t from e.
    edge_under (about (core c.args.self.now)) (Has (core c.args.self.now)) from c.args.to c.args.a c.in-AsRole.c c.args.role c.in-AsRole.other e c.in-AsRole.ensures.stands c.if-role-other.true
    (c.passes.ensures.0 t)
