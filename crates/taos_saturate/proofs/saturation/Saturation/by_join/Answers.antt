use Rattle.taos_calculus.specs.Numbered.{join}
use Rattle.taos_saturate.proofs.Steps.{no_join, join_lacks}
use Rattle.taos_saturate.proofs.saturation.Saturation.by_join.Goals as goal

pub returns-in-Some-says : goal.returns-in-Some-says
returns-in-Some-says c = join c.in-And.ensures.stands c.in-Some.ensures c.in-Some-says.ensures

pub returns-in_default : goal.returns-in_default
returns-in_default c = no_join c.args.self.now c.args.who c.args.left c.args.right c.node.result c.node.ensures.stands c.in_default.not-And

pub returns-in_default-says-2 : goal.returns-in_default-says-2
returns-in_default-says-2 c = join_lacks c.args.self.now c.args.who c.args.left c.args.right c.in-And.a c.in-And.b c.in-And.ensures.stands c.in_default-says-2.ensures
