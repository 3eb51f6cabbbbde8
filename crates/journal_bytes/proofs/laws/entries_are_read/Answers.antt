use Rattle.byte_fields.proofs.FieldLaws.{bytes_are}
use Rattle.journal_bytes.proofs.Entries.{entry_takes, entry_again}
use Rattle.journal_bytes.proofs.EntryForms.{entry_form}
use Rattle.journal_bytes.proofs.laws.entries_are_read.Goals as goal

pub returns-clause-read : goal.returns-clause-read
returns-clause-read c = λ bytes e at end le all.
    (λ read. entry_takes bytes (bytes_are bytes all) e at end le read, λ is. entry_again bytes e at end is.0 is.1)

pub returns-clause-refused : goal.returns-clause-refused
returns-clause-refused c = λ bytes at f le all e. (entry_form.stays bytes (bytes_are bytes all)).refuses at f le e
