use Rattle.goal_search.specs.Reasons.{onward}
use Rattle.goal_search.proofs.search.Search.go_on.Goals as goal

pub add-requires-clause-reason : goal.add-requires-clause-reason
add-requires-clause-reason c = onward c.requires.from_in (c.has.ensures.0 c.if-has.true) c.requires.edge
