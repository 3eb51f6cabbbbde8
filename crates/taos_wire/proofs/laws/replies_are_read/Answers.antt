use Rattle.byte_fields.proofs.FieldLaws.{bytes_are}
use Rattle.taos_wire.proofs.ReplyLaws.{answer, reply_again, reply_takes}
use Rattle.taos_wire.proofs.ReplyForms.{reply_refused}
use Rattle.taos_wire.proofs.laws.replies_are_read.Goals as goal

pub returns-clause-read : goal.returns-clause-read
returns-clause-read c = λ bytes channel seq r all. ((λ e. reply_takes bytes (bytes_are bytes all) (answer channel seq r) e), (λ is. reply_again channel seq r bytes is))

pub returns-clause-refused : goal.returns-clause-refused
returns-clause-refused c = λ bytes f all e. reply_refused bytes (bytes_are bytes all) f e
