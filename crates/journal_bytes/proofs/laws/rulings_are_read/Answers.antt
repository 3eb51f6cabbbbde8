use Rattle.byte_fields.proofs.FieldLaws.{bytes_are}
use Rattle.journal_bytes.proofs.Rulings.{ruled_takes_all, ruled_again_all}
use Rattle.journal_bytes.proofs.EntryForms.{ruled_form}
use Rattle.journal_bytes.proofs.laws.rulings_are_read.Goals as goal

pub returns-clause-read : goal.returns-clause-read
returns-clause-read c = λ bytes e at end le all.
    (λ read. ruled_takes_all bytes (bytes_are bytes all) e at end le read, λ is. ruled_again_all bytes e at end is.0 is.1)

pub returns-clause-refused : goal.returns-clause-refused
returns-clause-refused c = λ bytes at f le all e. (ruled_form.stays bytes (bytes_are bytes all)).refuses at f le e
