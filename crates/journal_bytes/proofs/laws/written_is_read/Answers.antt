use Rattle.journal_bytes.specs.Spelling.{journals_bytes}
use Rattle.journal_bytes.proofs.JournalLaws.{journals_again, written_spells}
use Rattle.journal_bytes.proofs.laws.written_is_read.Goals as goal

pub returns : goal.returns
returns c = record {
  spelled = λ j fits. written_spells j fits;
  read = λ j fits. journals_again (journals_bytes j) j (written_spells j fits);
}
