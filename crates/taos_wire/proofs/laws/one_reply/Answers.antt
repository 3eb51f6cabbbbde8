use Rattle.taos_wire.proofs.ReplyLaws.{spelled_once}
use Rattle.taos_wire.proofs.laws.one_reply.Goals as goal

pub returns : goal.returns
returns c = λ a d n m q r bytes is_q is_r. spelled_once a d n m q r bytes is_q is_r
