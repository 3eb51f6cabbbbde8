use Rattle.taos_calculus.proofs.Completeness.{keeps_reach, knows_reach}
use Rattle.taos_calculus.proofs.laws.rules_keep_reach.Goals as goal

pub returns : goal.returns
returns c = record { keeps = keeps_reach; knows = knows_reach }
