use Rattle.byte_fields.proofs.FieldLaws.{bytes_are}
use Rattle.journal_bytes.proofs.JournalForms.{journals_refused}
use Rattle.journal_bytes.proofs.JournalLaws.{journals_take, journals_again}
use Rattle.journal_bytes.proofs.laws.journals_are_read.Goals as goal

pub returns-clause-read : goal.returns-clause-read
returns-clause-read c = λ bytes j all.
    (λ e. journals_take bytes (bytes_are bytes all) j e, λ is. journals_again bytes j is)

pub returns-clause-refused : goal.returns-clause-refused
returns-clause-refused c = λ bytes f all e. journals_refused bytes (bytes_are bytes all) f e
