use Rattle.taos_calculus.proofs.Staying.{stays_within}
use Rattle.taos_calculus.proofs.laws.derivations_stay_within.Goals as goal

pub returns : goal.returns
returns c = stays_within
