use Rattle.taos_calculus.proofs.Completeness.{has_every_fact}
use Rattle.taos_calculus.proofs.laws.saturation_is_complete.Goals as goal

pub returns : goal.returns
returns c = has_every_fact
