use Rattle.goal_search.proofs.asked.Asked.derives.Goals as goal

pub returns-clause-seen_is : goal.returns-clause-seen_is
returns-clause-seen_is c = c.decide.ensures.same.seen_is

pub returns-clause-answer : goal.returns-clause-answer
returns-clause-answer c = rw (c.number-i.ensures.named_is, c.number-j.ensures.named_is) at c.decide.ensures.answer
