use Rattle.byte_fields.proofs.FieldLaws.{bytes_are}
use Rattle.node_file.proofs.Faults.{opening_refused}
use Rattle.node_file.proofs.OpeningLaws.{opening_again, opening_takes}
use Rattle.node_file.proofs.laws.openings_are_read.Goals as goal

pub returns-clause-read : goal.returns-clause-read
returns-clause-read c = λ bytes o all. ((λ e. opening_takes bytes (bytes_are bytes all) o e), (λ is. opening_again bytes o is))

pub returns-clause-refused : goal.returns-clause-refused
returns-clause-refused c = λ bytes f all e. opening_refused bytes (bytes_are bytes all) f e
