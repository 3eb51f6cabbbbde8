use Rattle.journal_bytes.proofs.JournalForms.{cut_refused}
use Rattle.journal_bytes.proofs.JournalLaws.{none_longer, longer_refused}
use Rattle.journal_bytes.proofs.laws.no_journals_begin_others.Goals as goal

pub returns : goal.returns
returns c = record {
  alone = λ i j front more is_i is_j. none_longer i j front more is_i is_j;
  cut = λ j front more bytes is some. cut_refused j front more bytes is some;
  longer = λ j bytes more is some. longer_refused j bytes more is some;
}
