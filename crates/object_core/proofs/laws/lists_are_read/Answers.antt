use Rattle.byte_fields.proofs.FieldLaws.{bytes_are}
use Rattle.object_core.proofs.ListForms.{form_list}
use Rattle.object_core.proofs.ListReaders.{list_takes, list_again}
use Rattle.object_core.proofs.laws.lists_are_read.Goals as goal

pub returns-clause-read : goal.returns-clause-read
returns-clause-read c = λ bytes list at end le all.
    (λ e. list_takes bytes (bytes_are bytes all) list at end le e, λ is. list_again bytes list at end is.0 is.1)

pub returns-clause-refused : goal.returns-clause-refused
returns-clause-refused c = λ bytes at f le all e. (form_list.stays bytes (bytes_are bytes all)).refuses at f le e
