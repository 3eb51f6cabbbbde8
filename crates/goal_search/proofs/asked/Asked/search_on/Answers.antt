use Rattle.std.proofs.Common.{not}
use Rattle.goal_search.specs.Searching.{core, Has, IsSettled}
use Rattle.goal_search.proofs.Answered.{asks_the_same, done_by, grown_asked, same_itself, settled_or}
use Rattle.goal_search.proofs.asked.Asked.search_on.Goals as goal

pub returns-then-not-self-clause-asked : goal.returns-then-not-self-clause-asked
returns-then-not-self-clause-asked c =
    grown_asked c.args.self.now c.settle-found.new.self (not c.settle-found.result) _ _ _ _ _ c.requires.asked c.settle-found.ensures.grown
    (settled_or c.settle-found.result (IsSettled (core c.settle-found.new.self)) c.settle-found.ensures.settled)

pub returns-then-not-self-clause-same : goal.returns-then-not-self-clause-same
returns-then-not-self-clause-same c = asks_the_same c.args.self.now c.settle-found.new.self (not c.settle-found.result) _ _ _ _ _ c.settle-found.ensures.grown.about_is

pub returns-then-not-self-clause-done : goal.returns-then-not-self-clause-done
returns-then-not-self-clause-done c =
    done_by c.settle-found.result (Has (core c.settle-found.new.self) c.args.left c.args.right) (IsSettled (core c.settle-found.new.self)) c.settle-found.ensures.answer c.settle-found.ensures.settled

pub returns-else-not-self-clause-same : goal.returns-else-not-self-clause-same
returns-else-not-self-clause-same c = same_itself c.args.self.now
