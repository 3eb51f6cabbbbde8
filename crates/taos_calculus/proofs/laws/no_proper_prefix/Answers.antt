use Rattle.taos_calculus.proofs.ProofForms.{cut_refused}
use Rattle.taos_calculus.proofs.ProofLaws.{none_longer, longer_refused}
use Rattle.taos_calculus.proofs.laws.no_proper_prefix.Goals as goal

pub returns : goal.returns
returns c = record {
  alone = λ p q front more is_p is_q. none_longer p q front more is_p is_q;
  cut = λ p front more is some. cut_refused p front more is some;
  longer = λ p bytes more is some. longer_refused p bytes more is some;
}
