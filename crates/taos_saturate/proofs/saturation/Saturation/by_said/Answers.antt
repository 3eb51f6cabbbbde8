use Rattle.taos_saturate.proofs.Steps.{gives_said, said_lacks}
use Rattle.taos_saturate.proofs.saturation.Saturation.by_said.Goals as goal

pub returns-in-Some : goal.returns-in-Some
returns-in-Some c = gives_said c.args.self.now c.requires.ready c.in-Some.cite c.args.who c.args.left c.args.right c.in-Some.ensures

pub returns-in-None : goal.returns-in-None
returns-in-None c = said_lacks c.args.self.now c.requires.ready c.args.who c.args.left c.args.right c.requires.who_in c.requires.left_in c.requires.right_in c.in-None.ensures
