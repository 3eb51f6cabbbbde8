use Rattle.goal_search.specs.Searching.{core}
use Rattle.goal_search.proofs.Edged.{edge_told}
use Rattle.goal_search.proofs.Told.{more_then}
use Rattle.goal_search.proofs.search.Search.tell_edge.Goals as goal

pub returns-then-is_none-clause-more : goal.returns-then-is_none-clause-more
returns-then-is_none-clause-more c =
    more_then (core c.args.self.now) c.args.found.now c.tell_formed.new.found c.tell_heard.new.found c.tell_formed.ensures.more c.tell_heard.ensures.more

pub returns-then-is_none-clause-told : goal.returns-then-is_none-clause-told
returns-then-is_none-clause-told c =
    edge_told (core c.args.self.now) c.args.found.now c.tell_formed.new.found c.tell_heard.new.found c.args.from c.args.to
    c.tell_formed.ensures.more c.tell_heard.ensures.more c.tell_formed.ensures.told c.tell_heard.ensures.told
