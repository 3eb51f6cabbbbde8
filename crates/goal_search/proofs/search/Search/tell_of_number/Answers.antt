use Rattle.goal_search.specs.Searching.{core}
use Rattle.goal_search.proofs.Reasoned.{onward_number}
use Rattle.goal_search.proofs.search.Search.tell_of_number.Goals as goal

pub returns-then-reason-len-clause-told : goal.returns-then-reason-len-clause-told
returns-then-reason-len-clause-told c = λ why.
    onward_number (core c.args.self.now) c.requires.ready c.args.found.now c.args.row c.args.number c.args.reason c.requires.row_in c.tell_chain.new.found
    c.if-reason-eq-AT_ONCE.false c.if-reason-eq-OF_BOTH.false why c.tell_chain.ensures.told
