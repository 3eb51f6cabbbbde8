use Rattle.taos_wire.proofs.RequestLaws.{spelled_once}
use Rattle.taos_wire.proofs.laws.one_request.Goals as goal

pub returns : goal.returns
returns c = λ q r bytes is_q is_r. spelled_once q r bytes is_q is_r
