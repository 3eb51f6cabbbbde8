use Rattle.std.proofs.lemmas.Bool.{eqb-true}
use Rattle.goal_search.specs.Searching.{about, core, Has}
use Rattle.goal_search.proofs.EdgeLaws.{edge_role}
use Rattle.goal_search.proofs.search.Search.is_in_role.Goals as goal

pub returns-in-AsRole : goal.returns-in-AsRole
returns-in-AsRole c = λ t.
    edge_role (about (core c.args.self.now)) (Has (core c.args.self.now)) c.args.base c.args.whole c.in-AsRole.a c.in-AsRole.field-1 c.in-AsRole.ensures.stands (eqb-true c.in-AsRole.a c.args.base t)
