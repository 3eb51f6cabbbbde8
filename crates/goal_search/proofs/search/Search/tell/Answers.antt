use Rattle.goal_search.specs.Searching.{core}
use Rattle.goal_search.proofs.Told.{fact_celled, told_more, told_now}
use Rattle.goal_search.proofs.search.Search.tell.Goals as goal

-- a fact of the table has its place
pub add-requires-clause-celled : goal.add-requires-clause-celled
add-requires-clause-celled c = fact_celled (core c.args.self.now) c.requires.ready c.args.found.now c.args.fact c.requires.telling c.requires.fact_in

pub returns-then-is_none-clause-more : goal.returns-then-is_none-clause-more
returns-then-is_none-clause-more c =
    told_more (core c.args.self.now) c.requires.ready c.args.found.now c.add.new.self c.args.fact c.args.step c.requires.telling
    c.add.ensures.found c.add.ensures.width c.add.ensures.statements c.add.ensures.lines c.requires.gives

pub returns-then-is_none-clause-told : goal.returns-then-is_none-clause-told
returns-then-is_none-clause-told c =
    told_now (core c.args.self.now) c.requires.ready c.args.found.now c.add.new.self c.args.fact c.args.step c.requires.telling
    c.add.ensures.found c.add.ensures.width c.add.ensures.statements c.add.ensures.lines c.requires.gives
