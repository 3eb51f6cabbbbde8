use Rattle.std.proofs.Common.{refl}
use Rattle.goal_search.specs.Reasons.{speaker}
use Rattle.goal_search.proofs.search.Search.begin_speaker.Goals as goal

-- both certificates make one statement
pub add-requires-clause-reason : goal.add-requires-clause-reason
add-requires-clause-reason c =
    speaker c.args.other c.args.number c.cite-one.ensures.stands c.cite-it.ensures.stands (c.if-one-it.true, c.if-one-it-2.true) c.statement_row-row.ensures.row refl refl
