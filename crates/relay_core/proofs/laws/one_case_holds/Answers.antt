use Rattle.byte_fields.proofs.FieldLaws.{bytes_are}
use Rattle.relay_core.proofs.Cases.{some_case, that_case}
use Rattle.relay_core.proofs.laws.one_case_holds.Goals as goal

pub returns-clause-some : goal.returns-clause-some
returns-clause-some c = λ issuers nodes node bytes all. some_case issuers nodes node bytes (bytes_are bytes all)

pub returns-clause-alone : goal.returns-clause-alone
returns-clause-alone c = λ issuers nodes node bytes said all is. that_case issuers nodes node bytes said (bytes_are bytes all) is
