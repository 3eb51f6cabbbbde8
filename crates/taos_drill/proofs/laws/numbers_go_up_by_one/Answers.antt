use Rattle.taos_drill.proofs.Numbering.{once, up}
use Rattle.taos_drill.proofs.laws.numbers_go_up_by_one.Goals as goal

pub returns-clause-once : goal.returns-clause-once
returns-clause-once c = λ requests lanes some. once requests lanes some

pub returns-clause-up : goal.returns-clause-up
returns-clause-up c = λ requests lanes lane is_lane. up lanes lane is_lane requests
