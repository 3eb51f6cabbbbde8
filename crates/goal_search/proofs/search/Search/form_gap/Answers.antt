use Rattle.std.proofs.Common.{refl}
use Rattle.goal_search.specs.Searching.{about, core, Has}
use Rattle.goal_search.proofs.EdgeLaws.{edge_left, edge_right, edge_role}
use Rattle.goal_search.proofs.search.Search.form_gap.Goals as goal

pub part_gap-requires-clause-part_of : goal.part_gap-requires-clause-part_of
part_gap-requires-clause-part_of c =
    edge_left (about (core c.args.self.now)) (Has (core c.args.self.now)) c.args.number c.in-And.a c.in-And.a c.in-And.b c.in-And.ensures.stands refl

pub part_gap-requires-in-And-clause-part_of : goal.part_gap-requires-in-And-clause-part_of
part_gap-requires-in-And-clause-part_of c =
    edge_right (about (core c.args.self.now)) (Has (core c.args.self.now)) c.args.number c.in-And.b c.in-And.a c.in-And.b c.in-And.ensures.stands refl

pub part_gap-requires-in-AsRole-clause-part_of : goal.part_gap-requires-in-AsRole-clause-part_of
part_gap-requires-in-AsRole-clause-part_of c =
    edge_role (about (core c.args.self.now)) (Has (core c.args.self.now)) c.in-AsRole.a c.args.number c.in-AsRole.a c.in-AsRole.field-1 c.in-AsRole.ensures.stands refl
