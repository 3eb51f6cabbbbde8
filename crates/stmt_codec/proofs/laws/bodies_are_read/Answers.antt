use Rattle.byte_fields.proofs.FieldLaws.{bytes_are}
use Rattle.stmt_codec.proofs.Bodies.{read_is}
use Rattle.stmt_codec.proofs.Offsets.{body_stays}
use Rattle.stmt_codec.proofs.laws.bodies_are_read.Goals as goal

pub returns-clause-read : goal.returns-clause-read
returns-clause-read c = λ bytes at end d le all. read_is bytes at end d le (bytes_are bytes all)

pub returns-clause-refused : goal.returns-clause-refused
returns-clause-refused c = λ bytes at f le all e. (body_stays bytes (bytes_are bytes all)).refuses at f le e
