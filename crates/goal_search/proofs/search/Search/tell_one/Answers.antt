use Rattle.goal_search.specs.Searching.{core}
use Rattle.goal_search.proofs.Told.{heard_one}
use Rattle.goal_search.proofs.search.Search.tell_one.Goals as goal

pub returns-then-it-to-clause-told : goal.returns-then-it-to-clause-told
returns-then-it-to-clause-told c =
    heard_one (core c.args.self.now) c.args.found.now c.tell_handed.new.found c.tell_delegated.new.found c.args.from c.args.to c.args.number
    c.tell_handed.ensures.more c.tell_delegated.ensures.more c.tell_handed.ensures.told c.tell_delegated.ensures.told
