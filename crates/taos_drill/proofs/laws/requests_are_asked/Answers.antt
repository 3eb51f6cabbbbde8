use Rattle.taos_drill.proofs.Asking.{request_asked}
use Rattle.taos_drill.proofs.laws.requests_are_asked.Goals as goal

pub returns : goal.returns
returns c = λ seed requests lanes i least some few is. request_asked seed requests lanes i least some few is
