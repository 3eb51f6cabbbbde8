use Rattle.taos_saturate.proofs.Steps.{new_says}
use Rattle.taos_saturate.proofs.saturation.Saturation.new_says.Goals as goal

pub returns-in-Some-find_says : goal.returns-in-Some-find_says
returns-in-Some-find_says c = new_says c.args.self.now c.requires.ready c.args.who c.statement-statement.result.left c.statement-statement.result.right c.args.place
    c.in-Some-find_says.step c.requires.who_in c.statement-statement.ensures c.in-Some-find_says.ensures c.in-None.ensures
