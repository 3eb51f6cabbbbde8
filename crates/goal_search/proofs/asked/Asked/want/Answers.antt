use Rattle.std.proofs.Common.{false, arith}
use Rattle.goal_search.proofs.Answered.{asks_the_same, grown_asked, same_itself}
use Rattle.goal_search.proofs.Refusals.{never}
use Rattle.goal_search.proofs.asked.Asked.want.Goals as goal

pub returns-then-not-is_wanted-clause-asked : goal.returns-then-not-is_wanted-clause-asked
returns-then-not-is_wanted-clause-asked c = grown_asked c.args.self.now c.want.new.self false _ _ _ _ _ c.requires.asked c.want.ensures.grown (λ t. absurd (never t))

pub returns-then-not-is_wanted-clause-same : goal.returns-then-not-is_wanted-clause-same
returns-then-not-is_wanted-clause-same c = asks_the_same c.args.self.now c.want.new.self false _ _ _ _ _ c.want.ensures.grown.about_is

pub returns-else-not-is_wanted-clause-same : goal.returns-else-not-is_wanted-clause-same
returns-else-not-is_wanted-clause-same c = same_itself c.args.self.now

pub want-requires-clause-row_in : goal.want-requires-clause-row_in
want-requires-clause-row_in c = (omega (arith, c.requires.number_in), λ w. never (c.if-not-is_wanted.ensures.1 w))
