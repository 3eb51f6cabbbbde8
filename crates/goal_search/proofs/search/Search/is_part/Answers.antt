use Rattle.std.proofs.lemmas.Bool.{eqb-true}
use Rattle.goal_search.specs.Searching.{about, core, Has}
use Rattle.goal_search.proofs.EdgeLaws.{edge_left, edge_right}
use Rattle.goal_search.proofs.search.Search.is_part.Goals as goal

pub returns-then-a-part : goal.returns-then-a-part
returns-then-a-part c = λ t.
    edge_left (about (core c.args.self.now)) (Has (core c.args.self.now)) c.args.whole c.args.part c.in-And.a c.in-And.b c.in-And.ensures.stands c.if-a-part.true

pub returns-else-a-part : goal.returns-else-a-part
returns-else-a-part c = λ t.
    edge_right (about (core c.args.self.now)) (Has (core c.args.self.now)) c.args.whole c.args.part c.in-And.a c.in-And.b c.in-And.ensures.stands (eqb-true c.in-And.b c.args.part t)
