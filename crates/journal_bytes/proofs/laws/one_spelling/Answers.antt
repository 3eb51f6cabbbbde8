use Rattle.journal_bytes.proofs.JournalLaws.{spelled_once}
use Rattle.journal_bytes.proofs.laws.one_spelling.Goals as goal

pub returns : goal.returns
returns c = λ i j bytes is_i is_j. spelled_once i j bytes is_i is_j
