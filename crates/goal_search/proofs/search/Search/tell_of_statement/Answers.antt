use Rattle.std.proofs.Common.{◌+◌, length, refl}
use Rattle.goal_search.specs.Searching.{core}
use Rattle.goal_search.proofs.Reasoned.{at_once_statement, both_statement, onward_statement}
use Rattle.goal_search.proofs.search.Search.tell_of_statement.Goals as goal

pub returns-then-reason-eq-AT_ONCE-clause-told : goal.returns-then-reason-eq-AT_ONCE-clause-told
returns-then-reason-eq-AT_ONCE-clause-told c = λ k e why.
    at_once_statement (core c.args.self.now) c.requires.ready c.args.found.now (length c.args.self.now.nodes.items + c.args.place) c.args.number c.args.reason c.args.place refl k e c.tell_speaker.new.found
    c.if-reason-eq-AT_ONCE.true why c.tell_speaker.ensures.told

pub returns-then-reason-eq-OF_BOTH-clause-told : goal.returns-then-reason-eq-OF_BOTH-clause-told
returns-then-reason-eq-OF_BOTH-clause-told c = λ k e why.
    both_statement (core c.args.self.now) c.requires.ready c.args.found.now (length c.args.self.now.nodes.items + c.args.place) c.args.number c.args.reason c.args.place refl k e c.tell_join.new.found
    c.if-reason-eq-OF_BOTH.true why (λ a b at t u. c.tell_join.ensures.told k a b e at t u)

pub returns-then-reason-len-clause-told : goal.returns-then-reason-len-clause-told
returns-then-reason-len-clause-told c = λ k e why.
    onward_statement (core c.args.self.now) c.requires.ready c.args.found.now (length c.args.self.now.nodes.items + c.args.place) c.args.number c.args.reason c.args.place refl k e c.tell_lift.new.found
    c.if-reason-eq-AT_ONCE.false c.if-reason-eq-OF_BOTH.false why (λ t edge. c.tell_lift.ensures.told k e t edge)
