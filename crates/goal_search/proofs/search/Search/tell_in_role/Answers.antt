use Rattle.term_pool.specs.Finding.{facts_in}
use Rattle.goal_search.specs.Searching.{core}
use Rattle.goal_search.proofs.Told.{gives_role}
use Rattle.goal_search.proofs.search.Search.tell_in_role.Goals as goal

pub tell_speaks-requires-clause-gives : goal.tell_speaks-requires-clause-gives
tell_speaks-requires-clause-gives c =
    gives_role (core c.args.self.now) (facts_in c.args.found.now) c.args.from c.args.to c.in-AsRole.ensures.stands c.if-a-from.true
