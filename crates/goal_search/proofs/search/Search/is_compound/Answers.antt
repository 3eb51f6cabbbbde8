use Rattle.std.proofs.Common.{inr}
use Rattle.goal_search.specs.Searching.{core}
use Rattle.goal_search.proofs.Finishing.{no_target}
use Rattle.goal_search.proofs.search.Search.is_compound.Goals as goal

pub returns-in_default : goal.returns-in_default
returns-in_default c = inr (λ row from. no_target (core c.args.self.now) row from c.args.number c.node.result c.node.ensures.stands c.in_default.not-Quote c.in_default.not-For c.in_default.not-AsRole)
