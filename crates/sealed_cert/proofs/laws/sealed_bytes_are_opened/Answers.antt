use Rattle.byte_fields.proofs.FieldLaws.{bytes_are}
use Rattle.sealed_cert.proofs.Opened.{opened_takes, opened_again, issued_takes, issued_again}
use Rattle.sealed_cert.proofs.Refused.{relayed_why, relayed_is_refused, issued_why, issued_is_refused}
use Rattle.sealed_cert.proofs.laws.sealed_bytes_are_opened.Goals as goal

pub returns-clause-relayed : goal.returns-clause-relayed
returns-clause-relayed c = λ key bytes d all. (λ e. opened_takes key bytes d (bytes_are bytes all) e, λ is. opened_again key bytes d is)

pub returns-clause-issued : goal.returns-clause-issued
returns-clause-issued c = λ entries bytes d all. (λ e. issued_takes entries bytes d (bytes_are bytes all) e, λ is. issued_again entries bytes d is)

pub returns-clause-relayed_refused : goal.returns-clause-relayed_refused
returns-clause-relayed_refused c = λ key bytes f all. (λ e. relayed_why key bytes f (bytes_are bytes all) e, λ is. relayed_is_refused key bytes f is)

pub returns-clause-issued_refused : goal.returns-clause-issued_refused
returns-clause-issued_refused c = λ entries bytes f all. (λ e. issued_why entries bytes f (bytes_are bytes all) e, λ is. issued_is_refused entries bytes f is)
