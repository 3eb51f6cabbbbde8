use Rattle.taos_drill.proofs.Fitting.{opening_fits}
use Rattle.taos_drill.proofs.laws.an_opening_is_within_limits.Goals as goal

pub returns : goal.returns
returns c = λ seed requests lanes least few. opening_fits lanes few seed requests least
