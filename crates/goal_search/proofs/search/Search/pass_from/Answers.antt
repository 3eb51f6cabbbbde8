use Rattle.goal_search.specs.Searching.{core}
use Rattle.goal_search.proofs.Growing.{filled_then}
use Rattle.goal_search.proofs.search.Search.pass_from.Goals as goal

pub returns-then-from-len : goal.returns-then-from-len
returns-then-from-len c = filled_then (core c.args.self.now) (core c.pass_form.new.self) (core c.close.new.self) c.pass_form.ensures c.close.ensures
