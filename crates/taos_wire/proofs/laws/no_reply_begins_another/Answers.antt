use Rattle.taos_wire.proofs.ReplyForms.{cut_refused}
use Rattle.taos_wire.proofs.ReplyLaws.{none_longer, longer_refused}
use Rattle.taos_wire.proofs.laws.no_reply_begins_another.Goals as goal

pub returns : goal.returns
returns c = record {
  alone = λ a d n m q r front more is_q is_r. none_longer a d n m q r front more is_q is_r;
  cut = λ channel seq r front more bytes is some. cut_refused channel seq r front more bytes is some;
  longer = λ channel seq r bytes more is some. longer_refused channel seq r bytes more is some;
}
