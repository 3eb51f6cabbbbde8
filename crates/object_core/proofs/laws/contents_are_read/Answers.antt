use Rattle.byte_fields.proofs.FieldLaws.{bytes_are}
use Rattle.object_core.proofs.ListForms.{form_content}
use Rattle.object_core.proofs.ListReaders.{content_takes, content_again}
use Rattle.object_core.proofs.laws.contents_are_read.Goals as goal

pub returns-clause-read : goal.returns-clause-read
returns-clause-read c = λ bytes content at end le all.
    (λ e. content_takes bytes (bytes_are bytes all) content at end le e, λ is. content_again bytes content at end is.0 is.1)

pub returns-clause-refused : goal.returns-clause-refused
returns-clause-refused c = λ bytes at f le all e. (form_content.stays bytes (bytes_are bytes all)).refuses at f le e
