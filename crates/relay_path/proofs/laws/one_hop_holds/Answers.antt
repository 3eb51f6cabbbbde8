use Rattle.byte_fields.proofs.FieldLaws.{bytes_are}
use Rattle.relay_path.proofs.Cases.{some_case, that_case}
use Rattle.relay_path.proofs.laws.one_hop_holds.Goals as goal

pub returns-clause-some : goal.returns-clause-some
returns-clause-some c = λ d target bytes all. some_case d target bytes (bytes_are bytes all)

pub returns-clause-alone : goal.returns-clause-alone
returns-clause-alone c = λ d target bytes said all is. that_case d target bytes said (bytes_are bytes all) is
