use Rattle.std.proofs.Common.{◌≡◌, map, take}
use Rattle.prin_term.specs.View.{principal}
use Rattle.taos_calculus.specs.Tables.{named}
use Rattle.goal_search.proofs.asked.Asked.are_listed.Given as goal

abbrev pub invariant-loop-i : goal.invariant-loop-i
invariant-loop-i l = map (named l.self.search.nodes.items) (take l.i l.self.list.items) ≡ map (λ e. principal e.who) (take l.i l.list)
