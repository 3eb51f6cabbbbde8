use Rattle.taos_wire.proofs.RequestForms.{cut_refused}
use Rattle.taos_wire.proofs.RequestLaws.{none_longer, longer_refused}
use Rattle.taos_wire.proofs.laws.no_proper_prefix.Goals as goal

pub returns : goal.returns
returns c = record {
  alone = λ q r front more is_q is_r. none_longer q r front more is_q is_r;
  cut = λ r front more bytes is some. cut_refused r front more bytes is some;
  longer = λ r bytes more is some. longer_refused r bytes more is some;
}
