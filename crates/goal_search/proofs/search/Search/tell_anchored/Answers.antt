use Rattle.taos_calculus.specs.Numbered.{anchored}
use Rattle.goal_search.proofs.search.Search.tell_anchored.Goals as goal

pub tell_speaks-requires-clause-gives : goal.tell_speaks-requires-clause-gives
tell_speaks-requires-clause-gives c =
    anchored {anchor = record { key = c.in-Key.key; name = c.in-Name.name }} c.in-Some.ensures c.in-Key.ensures.stands c.in-Name.ensures.stands
