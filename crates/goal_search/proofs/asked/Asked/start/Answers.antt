use Rattle.goal_search.proofs.Answered.{begun_asked}
use Rattle.goal_search.proofs.asked.Asked.start.Goals as goal

pub returns-clause-asked : goal.returns-clause-asked
returns-clause-asked c = begun_asked c.gather.new.self c.restart.new.self _ _ _ _ _ c.gather.ensures.gathered c.restart.ensures.about_is c.restart.ensures.ready c.restart.ensures.none
