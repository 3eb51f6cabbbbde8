use Rattle.std.proofs.Common.{inr, refl}
use Rattle.goal_search.proofs.search.Search.saying_row.Goals as goal

pub returns-then-says_all : goal.returns-then-says_all
returns-then-says_all c = inr (c.cite-it.result, c.cite-it.ensures.stands, refl, c.if-says_all.ensures.0 refl)
