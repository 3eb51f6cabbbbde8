use Rattle.taos_lanes.proofs.Closing.{chain_goes_on}
use Rattle.taos_lanes.proofs.laws.chains_go_on.Goals as goal

pub returns : goal.returns
returns c = chain_goes_on
