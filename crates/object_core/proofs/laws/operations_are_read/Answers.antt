use Rattle.byte_fields.proofs.FieldLaws.{bytes_are}
use Rattle.object_core.proofs.Operations.{kind_within, operation_takes, operation_again, form_fields}
use Rattle.object_core.proofs.laws.operations_are_read.Goals as goal

pub returns-clause-named : goal.returns-clause-named
returns-clause-named c = kind_within

pub returns-clause-read : goal.returns-clause-read
returns-clause-read c = λ bytes op kind at end some few le all. (
  λ e. operation_takes bytes (bytes_are bytes all) op kind at end some few le e,
  λ is. operation_again bytes op kind at end is.0 is.1 is.2,
)

pub returns-clause-refused : goal.returns-clause-refused
returns-clause-refused c = λ bytes kind at f le all e. ((form_fields kind).stays bytes (bytes_are bytes all)).refuses at f le e
