use Rattle.byte_fields.proofs.FieldLaws.{bytes_are}
use Rattle.taos_wire.proofs.RequestForms.{request_refused}
use Rattle.taos_wire.proofs.RequestLaws.{request_again, request_takes}
use Rattle.taos_wire.proofs.laws.requests_are_read.Goals as goal

pub returns-clause-read : goal.returns-clause-read
returns-clause-read c = λ bytes r all. ((λ e. request_takes bytes (bytes_are bytes all) r e), (λ is. request_again bytes r is))

pub returns-clause-refused : goal.returns-clause-refused
returns-clause-refused c = λ bytes f all e. request_refused bytes (bytes_are bytes all) f e
