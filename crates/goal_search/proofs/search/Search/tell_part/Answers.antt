use Rattle.term_pool.specs.Finding.{facts_in}
use Rattle.goal_search.specs.Searching.{core}
use Rattle.goal_search.proofs.Told.{gives_left, gives_right}
use Rattle.goal_search.proofs.search.Search.tell_part.Goals as goal

pub tell_speaks-requires-clause-gives : goal.tell_speaks-requires-clause-gives
tell_speaks-requires-clause-gives c =
    gives_left (core c.args.self.now) (facts_in c.args.found.now) c.args.from c.args.to c.in-And.ensures.stands c.if-a-to.true

pub tell_speaks-requires-then-b-to-clause-gives : goal.tell_speaks-requires-then-b-to-clause-gives
tell_speaks-requires-then-b-to-clause-gives c =
    gives_right (core c.args.self.now) (facts_in c.args.found.now) c.args.from c.args.to c.in-And.ensures.stands c.if-b-to.true
